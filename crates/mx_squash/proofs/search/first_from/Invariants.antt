use Rattle.std.proofs.Common.{◌≡◌, ℕ, ◌-◌, ◌<◌, ◌≤◌, Some, length}
use Rattle.std.specs.Prelude.{slice_get}
use Rattle.mx_blocks.specs.declared.block.Block.{Block}
use Rattle.mx_squash.proofs.search.first_from.Given as goal

abbrev pub invariant-loop-low : goal.invariant-loop-low
invariant-loop-low l = record {
  ordered : l.low ≤ l.high;
  within : l.high ≤ length l.blocks;
  before : (i : ℕ) (b : Block) → i < l.low → slice_get l.blocks i ≡ Some b → b.first < l.target;
  behind : (i : ℕ) (b : Block) → l.high ≤ i → slice_get l.blocks i ≡ Some b → l.target ≤ b.first;
}

abbrev pub decreases-loop-low : goal.decreases-loop-low
decreases-loop-low l = l.high - l.low
