use Rattle.std.proofs.Common.{◌≡◌, ◌++◌, ℕ, List, cond, min, ap, ◌∙◌}
use Rattle.cmd_answer.specs.declared.Status.TheVariants.{Halted, OutOfBudget}
use Rattle.cmd_answer.specs.Answer.{prints}
use Rattle.mx_turn.specs.Run.{MachineRun, run_of}
use Rattle.mx_report.specs.Driving.{trace_text}
use Rattle.mx_report.specs.Report.{report_text}
use Rattle.cmd_simulate.specs.Simulated.{dump_of, program_answer, run_text}
use Rattle.cmd_simulate.proofs.simulated.simulate_on.Goals as goal

pub returns : goal.returns
unfolding program_answer
returns g c = λ p start.
    let code : List ℕ = c.args.image.now.code.items in
    let requests : List ℕ = c.args.requests.now in
    let limits = c.args.limits.now in
    let r : MachineRun = run_of p requests limits.budget in
    let driven = c.in_ok-driven.ensures in
    let last = driven.stands p start in
    let text : c.in_ok-output.output.items ≡ run_text r (trace_text p requests (min limits.trace limits.budget)) code (dump_of limits) =
    c.in_ok-output.ensures p last.0 last.1
    ∙ (λ k. driven.trace p start k
    ++ report_text (driven.halted p start k) (driven.counts p start k) (driven.console p start k) code (last.2 k).core (c.dump_of-dump.ensures k)) in
    let status : c.status_of-status.result ≡ cond r.halted Halted OutOfBudget =
    c.status_of-status.ensures ∙ ap (λ b. cond b Halted OutOfBudget) (driven.halted p start) in
    λ k. prints (status k) (text k)
