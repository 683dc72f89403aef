-- By whose plans each command links a source.
use Rattle.std.specs.Prelude.{◌≡◌}
use Rattle.lab_options.specs.declared.options.Scheduler.{Scheduler}
use Rattle.lab_options.specs.declared.options.Scheduler.TheVariants.{Copies}
use Rattle.lab_options.specs.declared.options.PlansOf.{PlansOf}
use Rattle.lab_options.specs.declared.options.PlansOf.TheVariants as plans
use Rattle.lab_options.specs.declared.options.LabCommand.{LabCommand}
use Rattle.lab_options.specs.declared.options.LabCommand.TheVariants.{Blocks, Explain, Caches, Interrupts}

-- the plans are those of a scheduler, or of a file in its place
abbrev pub IsInPlaceOf : Scheduler → PlansOf → Type 0
IsInPlaceOf s (plans.Scheduler given) = given ≡ s
IsInPlaceOf s (plans.File name) = Unit {0}

-- `blocks` and `explain` run a source as `run` links it, and `caches` and `interrupts` where no plan file is named
abbrev pub RunsAsLinked : LabCommand → Type 0
RunsAsLinked (Blocks options) = options.plans ≡ plans.Scheduler Copies
RunsAsLinked (Explain options) = options.plans ≡ plans.Scheduler Copies
RunsAsLinked (Caches options) = IsInPlaceOf Copies options.run.plans
RunsAsLinked (Interrupts options) = IsInPlaceOf Copies options.run.plans
RunsAsLinked _ = Unit {0}
