-- The run of a source by the plans of a file.
use Rattle.std.specs.Prelude.{◌≡◌, ℕ, List, ◌++◌, cond, None}
use Rattle.mx_source.specs.SourceValue.{SourceValue}
use Rattle.mx_source.specs.Meaning.{given}
use Rattle.mx_link.specs.declared.Linked.{Linked}
use Rattle.mx_link.specs.Linked.{IsLinked}
use Rattle.mx_turn.specs.Handler.{shipped}
use Rattle.mx_turn.specs.Program.{program_of}
use Rattle.mx_turn.specs.Run.{MachineRun, run_of}
use Rattle.cmd_answer.specs.declared.Status.TheVariants.{Halted, OutOfBudget}
use Rattle.cmd_answer.specs.Answer.{Answer, prints}
use Rattle.mx_isa.specs.Board.{board}
use Rattle.mx_report.specs.Report.{report_text}
use Rattle.law_end_to_end.specs.EndToEnd.{filled_run}
use Rattle.law_end_to_end.specs.Laws.{FilledMeansItsSource}
use Rattle.mx_plans.specs.Files.{LineSaid, marks_of}
use Rattle.mx_plans.specs.Says.{IsProposed}
use Rattle.mx_plans.specs.Copies.{as_planned}
use Rattle.lab_plans.specs.Verdicts.{AreTold}

-- the run of the image of a linked source, under the shipped handler, with requests at these cycles and these bytes as its input
abbrev pub linked_run : SourceValue → Linked → List ℕ → List ℕ → ℕ → MachineRun
linked_run source linked requests bytes budget =
    run_of (program_of shipped linked.image.code.items linked.image.user_data.items (given source.input bytes)) requests budget

-- the report of a run of an image with these code words
abbrev pub run_report : List ℕ → MachineRun → List ℕ
run_report code run = report_text run.halted run.counts run.console code run.last.core None

-- The answer where the source is linked by what the lines of a file propose and choose: its branches are in reach.
pub record IsRunByPlans (source : SourceValue) (plans : List LineSaid) (requests bytes : List ℕ) (budget : ℕ) (answer : Answer) : Type 0 where
  -- what `link` gives for a proposer that proposes what the lines say, with the copies that they choose
  pub linked : Linked
  pub is : IsLinked (IsProposed source (marks_of plans)) (as_planned plans) source board linked
  -- a line for each proposal that is not valid, and for each choice that a rule forbids
  pub lines : List ℕ
  pub told : AreTold source is.sites linked.proposals.items plans lines
  -- and the report of the run of the image
  pub answers : answer ≡ prints (cond (linked_run source linked requests bytes budget).halted Halted OutOfBudget)
      (lines ++ run_report linked.image.code.items (linked_run source linked requests bytes budget))
  -- that run is the one of the layout, and does what the source means, as far as the meaning is not stuck
  pub runs : linked_run source linked requests bytes budget ≡ filled_run (as_planned plans) source is.sites requests bytes budget
  pub means : FilledMeansItsSource (as_planned plans) source is.sites requests bytes budget
