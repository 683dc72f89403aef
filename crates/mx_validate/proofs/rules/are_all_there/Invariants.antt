use Rattle.std.proofs.Common.{◌≡◌, ℕ, ◌<◌}
use Rattle.mx_blocks.specs.Items.{ops, times}
use Rattle.mx_validate.proofs.rules.are_all_there.Given as goal

abbrev pub invariant-loop-k : goal.invariant-loop-k
invariant-loop-k l = (j : ℕ) → j < l.k → times j (ops l.items) ≡ 1
