use Rattle.std.proofs.Common.{ℕ, ◌<◌}
use Rattle.mx_blocks.specs.Items.{StandsAt}
use Rattle.mx_validate.proofs.rules.are_below.Given as goal

abbrev pub invariant-loop-item : goal.invariant-loop-item
invariant-loop-item l = (p k : ℕ) → p < l.item-index → StandsAt l.items p k → k < l.n
