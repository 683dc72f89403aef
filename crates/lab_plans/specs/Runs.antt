-- What is told of the run of a linked source.
use Rattle.std.specs.Prelude.{ℕ, List, cond}
use Rattle.mx_source.specs.SourceValue.{SourceValue}
use Rattle.mx_link.specs.declared.Linked.{Linked}
use Rattle.cmd_answer.specs.declared.Status.{Status}
use Rattle.cmd_answer.specs.declared.Status.TheVariants.{Halted, OutOfBudget}
use Rattle.cmd_answer.specs.Answer.{Answer, prints}
use Rattle.lab_plans.specs.Planned.{linked_run, run_report}

-- how the run of a linked source ends
abbrev pub run_status : SourceValue → Linked → List ℕ → List ℕ → ℕ → Status
run_status source linked requests bytes budget = cond (linked_run source linked requests bytes budget).halted Halted OutOfBudget

-- its report
abbrev pub report_of : SourceValue → Linked → List ℕ → List ℕ → ℕ → List ℕ
report_of source linked requests bytes budget = run_report linked.image.code.items (linked_run source linked requests bytes budget)

-- the answer of the run alone
abbrev pub run_answer : SourceValue → Linked → List ℕ → List ℕ → ℕ → Answer
run_answer source linked requests bytes budget =
    prints (run_status source linked requests bytes budget) (report_of source linked requests bytes budget)
