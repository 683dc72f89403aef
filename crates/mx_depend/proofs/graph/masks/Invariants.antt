use Rattle.std.proofs.Common.{◌≡◌, ◌<◌, ℕ, length, slice_index}
use Rattle.mx_depend.specs.Graphs.{IsMask}
use Rattle.mx_depend.proofs.graph.masks.Given as goal

abbrev pub invariant-loop-y : goal.invariant-loop-y
invariant-loop-y l = (length l.masks ≡ 64) × ((z : ℕ) → z < l.y → IsMask l.insts l.input z (slice_index l.masks z))
