use Rattle.std.proofs.Common.{◌<◌, ℕ}
use Rattle.std.specs.Prelude.{◌↔◌, IsTrue}
use Rattle.mx_depend.specs.Graphs.{has_bit, IsEdge}
use Rattle.mx_depend.proofs.graph.mask_of.Given as goal

abbrev pub invariant-loop-x : goal.invariant-loop-x
invariant-loop-x l = (z : ℕ) → IsTrue (has_bit l.mask z) ↔ ((z < l.x) × IsEdge l.insts l.input z l.y)
