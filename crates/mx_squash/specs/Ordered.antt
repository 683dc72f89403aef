-- Blocks in the order of their first statements.
use Rattle.std.specs.Prelude.{◌≡◌, ℕ, ◌<◌, Bool, true, false, List, Some, slice_get}
use Rattle.mx_source.specs.SourceValue.{SourceValue}
use Rattle.mx_blocks.specs.declared.block.Block.{Block}
use Rattle.mx_blocks.specs.Leaders.{AreBlocks}

abbrev pub Ascends : List Block → Type 0
Ascends blocks =
    (i j : ℕ) (b c : Block) → i < j → slice_get blocks i ≡ Some b → slice_get blocks j ≡ Some c → b.first < c.first

-- i is the number of the first block that passes
pub record IsFound (test : Block → Bool) (blocks : List Block) (i : ℕ) : Type 0 where
  pub block : Block
  pub is : slice_get blocks i ≡ Some block
  pub passes : test block ≡ true
  pub first : (j : ℕ) (b : Block) → j < i → slice_get blocks j ≡ Some b → test b ≡ false

-- the blocks are those of some source
pub record AreOfOneSource (blocks : List Block) : Type 0 where
  pub source : SourceValue
  pub all : AreBlocks source blocks
