-- Layouts by greedy plans, as a function of the source.
use Rattle.std.specs.Prelude.{◌≡◌, List}
use Rattle.mx_source.specs.SourceValue.{SourceValue}
use Rattle.mx_squash.specs.Copies.{Site}
use Rattle.mx_layout.specs.Layout.{IsLayout}
use Rattle.mx_reorg.specs.Greedy.{IsGreedy}
use Rattle.mx_isa.specs.Board.{board}

-- the function gives the layout of each source by greedy plans at the board's place; a source has exactly one (`greedy_layout_exists`)
abbrev pub IsScheduler : (SourceValue → List Site) → Type 0
IsScheduler layout_of = (source : SourceValue) (sites : List Site) → IsLayout IsGreedy source board sites → layout_of source ≡ sites
