-- Laws of leaders and blocks.
use Rattle.std.specs.Prelude.{◌≡◌, ℕ, suc, ◌+◌, ◌<◌, true, false, ◌↔◌, List, slice_get}
use Rattle.mx_source.specs.Labels.{is_labelled}
use Rattle.mx_source.specs.SourceValue.{SourceValue, IsSource}
use Rattle.mx_blocks.specs.declared.block.Block.{Block}
use Rattle.mx_blocks.specs.Leaders.{ends_there, is_leader, AreBlocks}

-- what are the blocks of each source
abbrev pub BlocksExist : Type 0
BlocksExist = (source : SourceValue) → IsSource source → (blocks : List Block) × AreBlocks source blocks

-- no other blocks are
abbrev pub BlocksUnique : Type 0
BlocksUnique = (source : SourceValue) (blocks others : List Block) → AreBlocks source blocks → AreBlocks source others → blocks ≡ others

-- why statement i begins a block
pub data Begins (source : SourceValue) (i : ℕ) : Type 0 where
  -- it is the first
  First : i ≡ 0 → Begins source i
  -- it has a label
  Labelled : is_labelled source.labels i ≡ true → Begins source i
  -- the statement before it is a transfer or a halt
  Behind : (before : ℕ) → suc before ≡ i → ends_there (slice_get source.statements before) ≡ true → Begins source i
  -- the 64th statement before it is a leader, and none lies between
  Far : (leader : ℕ) → leader + 64 ≡ i → is_leader source leader ≡ true → ((k : ℕ) → leader < k → k < i → is_leader source k ≡ false) → Begins source i

-- the leaders, which the definition finds by counting, are the statements that begin a block
abbrev pub LeadersBegin : Type 0
LeadersBegin = (source : SourceValue) (i : ℕ) → (is_leader source i ≡ true) ↔ Begins source i
