-- Sources that are linked by a scheduler, or by the plans of a file.
use Rattle.std.specs.Prelude.{◌≡◌, ℕ, List}
use Rattle.mx_io.specs.Shelves.{Told, Counts}
use Rattle.mx_source.specs.SourceValue.{SourceValue}
use Rattle.mx_plans.specs.Files.{lines_said, marks_of}
use Rattle.mx_plans.specs.declared.PlanLine.{PlanLine}
use Rattle.mx_plans.specs.Says.{IsProposed}
use Rattle.mx_plans.specs.Copies.{as_planned}
use Rattle.cmd_source.specs.declared.sources.Program.{Program}
use Rattle.lab_options.specs.declared.options.PlansOf.{PlansOf}
use Rattle.lab_options.specs.declared.options.PlansOf.TheVariants as asked
use Rattle.lab_plans.specs.Verdicts.{AreTold}
use Rattle.lab_sources.specs.declared.planners.FilePlans.{FilePlans}
use Rattle.lab_sources.specs.declared.planners.Planner.{Planner}
use Rattle.lab_sources.specs.declared.planners.Planner.TheVariants.{Scheduler, File}
use Rattle.lab_sources.specs.PlanFiles.{ArePlansOf}
use Rattle.lab_sources.specs.Schedulers.{board, IsLinked, IsLinkedBy}

-- the source is linked by what the lines of a file say, with the copies that they choose, and there is a line for each plan that is not
-- valid and for copies that a rule forbids
pub record IsLinkedByFile (plans : FilePlans) (p : Program) : Type 0 where
  pub is : IsLinked (IsProposed p.source (marks_of (lines_said plans.lines.items))) (as_planned (lines_said plans.lines.items)) p.source board p.linked
  pub told : AreTold p.source is.sites p.linked.proposals.items (lines_said plans.lines.items) plans.rejections.items

-- the source is linked so
abbrev pub IsLinkedAs : Planner → Program → Type 0
IsLinkedAs (Scheduler s) p = IsLinkedBy s p
IsLinkedAs (File plans) p = IsLinkedByFile plans p

-- the plans are those of a file with these lines
abbrev pub IsByLines : List PlanLine → Planner → Type 0
IsByLines lines (Scheduler s) = ⊥
IsByLines lines (File plans) = plans.lines.items ≡ lines

-- the plans are those of the plan file of a name, which was read
abbrev pub IsOfPlanFile : Told → List ℕ → SourceValue → Counts → Counts → Planner → Type 0
IsOfPlanFile told name source before after (Scheduler s) = ⊥
IsOfPlanFile told name source before after (File plans) = ArePlansOf told name source before after (lines_said plans.lines.items)

-- by whose plans it is linked is what was asked for: a scheduler, or the plan file of a name
abbrev pub IsAskedFor : Told → PlansOf → SourceValue → Counts → Counts → Planner → Type 0
IsAskedFor told (asked.Scheduler s) source before after by = (by ≡ Scheduler s) × (after ≡ before)
IsAskedFor told (asked.File name) source before after by = IsOfPlanFile told name.now source before after by
