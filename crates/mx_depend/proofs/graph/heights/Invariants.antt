use Rattle.std.proofs.Common.{◌≡◌, ◌≤◌, ◌<◌, ◌+◌, ℕ, length, slice_index}
use Rattle.mx_depend.specs.Graphs.{IsHeight}
use Rattle.mx_depend.proofs.graph.heights.Given as goal

abbrev pub invariant-loop-done : goal.invariant-loop-done
invariant-loop-done l = (length l.heights ≡ 64) × ((z : ℕ) → l.n ≤ z + l.done → z < l.n → IsHeight l.insts l.input z (slice_index l.heights z))
