-- The figures of a source that is linked by the plans of a file.
use Rattle.std.specs.Prelude.{ℕ, List}
use Rattle.mx_source.specs.SourceValue.{SourceValue}
use Rattle.mx_plans.specs.Files.{LineSaid, marks_of}
use Rattle.mx_plans.specs.Says.{IsProposed}
use Rattle.mx_plans.specs.Copies.{as_planned}
use Rattle.lab_measures.specs.Figures.{AreFigures}
use Rattle.lab_plans.specs.declared.figures.PlannedFigures.{PlannedFigures}
use Rattle.lab_plans.specs.Verdicts.{AreTold}

-- the figures of the source and of its run by these plans and copies, and a line for each of them that is rejected
pub record ArePlannedFigures (source : SourceValue) (lines : List LineSaid) (requests bytes : List ℕ) (budget : ℕ)
    (f : PlannedFigures) : Type 0 where
  pub figures : AreFigures (IsProposed source (marks_of lines)) (as_planned lines) source requests bytes budget f.figures
  pub told : AreTold source figures.sites figures.proposals lines f.rejections.items
