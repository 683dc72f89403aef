use Rattle.std.proofs.Common.{cond, ap, ◌∙◌}
use Rattle.cmd_answer.specs.declared.Status.TheVariants.{Halted, OutOfBudget}
use Rattle.cmd_answer.specs.Answer.{prints}
use Rattle.mx_turn.specs.Program.{Program}
use Rattle.mx_tasks.specs.Sharing.{shared}
use Rattle.cmd_share.specs.Runs.{shared_text, shared_answer}
use Rattle.cmd_share.proofs.runs.simulate_shared.Goals as goal

pub returns : goal.returns
unfolding shared_answer
returns c =
    let q : Program = shared c.args.image.now.code.items c.args.image.now.user_data.items in
    let start = c.in_ok-machine.ensures in
    let run = c.in_ok-run.ensures in
    let text = c.in-Ok.ensures ∙ (λ k. shared_text (run.halted q start k) (run.counts q start k) (run.first q start k) (run.second q start k)) in
    let status = c.status_of-status.ensures ∙ ap (λ b. cond b Halted OutOfBudget) (run.halted q start) in
    λ k. prints (status k) (text k)
