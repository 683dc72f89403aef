use Rattle.std.proofs.Common.{ℕ}
use Rattle.std.specs.Prelude.{◌↔◌, IsTrue}
use Rattle.mx_depend.specs.Graphs.{has_bit}
use Rattle.mx_reorg.proofs.Choices.{StandsBelow}
use Rattle.mx_reorg.proofs.choosing.placed_in.Given as goal

abbrev pub invariant-loop-i : goal.invariant-loop-i
invariant-loop-i l = (k : ℕ) → IsTrue (has_bit l.placed k) ↔ StandsBelow l.items l.i k
