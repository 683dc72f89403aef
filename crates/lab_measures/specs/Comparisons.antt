-- A source and its run by four schedulers.
use Rattle.std.specs.Prelude.{ℕ, List, ◌⊎◌}
use Rattle.mx_source.specs.SourceValue.{SourceValue}
use Rattle.mx_validate.specs.Padded.{IsPadded}
use Rattle.mx_reorg.specs.Greedy.{IsGreedy}
use Rattle.mx_best.specs.Shortest.{IsProposed}
use Rattle.mx_layout.specs.declared.error.LinkError.{LinkError}
use Rattle.mx_layout.specs.Overlong.{IsRefusal}
use Rattle.mx_link.specs.Origins.{from_target, from_nowhere}
use Rattle.mx_isa.specs.Board.{board}
use Rattle.lab_measures.specs.declared.comparison.Comparison.{Comparison}
use Rattle.lab_measures.specs.Figures.{AreFigures}

-- the figures of the source and of its run by padded plans, by greedy plans without and with copies, and by shortest plans with copies
pub record IsComparison (source : SourceValue) (requests bytes : List ℕ) (budget : ℕ) (c : Comparison) : Type 0 where
  pub padded : AreFigures IsPadded from_nowhere source requests bytes budget c.padded
  pub list : AreFigures IsGreedy from_nowhere source requests bytes budget c.list
  pub copies : AreFigures IsGreedy from_target source requests bytes budget c.copies
  pub best : AreFigures IsProposed from_target source requests bytes budget c.best

-- the source, laid out by one of the schedulers, is refused by its first overlong branch alone; memory may be wanting
abbrev pub IsRefused : SourceValue → LinkError → Type 0
IsRefused source e = IsRefusal IsPadded source board e ⊎ IsRefusal IsGreedy source board e ⊎ IsRefusal IsProposed source board e
