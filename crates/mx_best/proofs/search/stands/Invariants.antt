use Rattle.std.proofs.Common.{ℕ, ◌<◌}
use Rattle.mx_blocks.specs.Items.{StandsAt}
use Rattle.mx_best.proofs.search.stands.Given as goal

abbrev pub invariant-loop-item : goal.invariant-loop-item
invariant-loop-item l = (p : ℕ) → p < l.item-index → ¬ StandsAt l.items p l.k
