use Rattle.std.proofs.Common.{◌≡◌, ◌≤◌, ◌<◌, ◌+◌, ℕ, length, slice_index}
use Rattle.lab_blocks.specs.Bounds.{IsSpan}
use Rattle.lab_blocks.proofs.bound.spans.Given as goal

abbrev pub invariant-loop-done : goal.invariant-loop-done
invariant-loop-done l = (length l.spans ≡ 64) × ((z : ℕ) → l.n ≤ z + l.done → z < l.n → IsSpan l.block z (slice_index l.spans z))
