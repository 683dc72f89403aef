-- How often blocks ran.
use Rattle.std.specs.Prelude.{◌≡◌, ℕ, List, map, slice_index}
use Rattle.mx_source.specs.SourceValue.{SourceValue}
use Rattle.mx_blocks.specs.declared.block.Block.{Block}
use Rattle.mx_blocks.specs.Leaders.{AreBlocks}
use Rattle.lab_blocks.specs.declared.facts.Facts.{Facts}

-- how often each block ran, where each statement was executed as often as the counts say: as often as its first statement
abbrev pub runs_by : List ℕ → List Block → List ℕ
runs_by counts blocks = map (λ block. slice_index counts block.first) blocks

-- so it is told of the blocks of a source
pub record RanAsCounted (source : SourceValue) (counts : List ℕ) (all : List Facts) : Type 0 where
  pub blocks : List Block
  pub are : AreBlocks source blocks
  pub ran : map (λ facts. facts.ran) all ≡ runs_by counts blocks
