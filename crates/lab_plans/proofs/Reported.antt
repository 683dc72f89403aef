-- The answer of a run without a trace or a dump is its report.
use Rattle.std.proofs.Common.{◌≡◌, ℕ, List, cond, min, Option, None, ap, arith}
use Rattle.std.proofs.lemmas.Bool.Decides.{nat_tests}
use Rattle.cmd_answer.specs.declared.Status.TheVariants.{Halted, OutOfBudget}
use Rattle.cmd_answer.specs.Answer.{prints}
use Rattle.mx_turn.specs.Handler.{shipped}
use Rattle.mx_turn.specs.Program.{Program, program_of}
use Rattle.mx_turn.specs.Run.{MachineRun, run_of}
use Rattle.mx_report.specs.Driving.{trace_text}
use Rattle.cmd_simulate.specs.Simulated.{image_answer, program_answer, run_text}
use Rattle.lab_plans.specs.Planned.{run_report}

none_traced : (budget : ℕ) → min 0 budget ≡ 0
none_traced budget = grind (arith, nat_tests)

module _ (code user_data : List ℕ) (input : Option (List ℕ)) (requests : List ℕ) (budget : ℕ) where
  abbrev p : Program
  p = program_of shipped code user_data input

  abbrev r : MachineRun
  r = run_of p requests budget

  pub report_is : image_answer code user_data input requests (record { budget = budget; trace = 0; dump = None; count = 1 })
      ≡ prints (cond r.halted Halted OutOfBudget) (run_report code r)
  unfolding program_answer
  report_is = ap (λ n. prints (cond r.halted Halted OutOfBudget) (run_text r (trace_text p requests n) code None)) (none_traced budget)
