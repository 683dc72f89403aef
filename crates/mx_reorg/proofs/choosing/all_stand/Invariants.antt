use Rattle.std.proofs.Common.{ℕ, ◌<◌}
use Rattle.mx_reorg.specs.Greedy.{Stands}
use Rattle.mx_reorg.proofs.choosing.all_stand.Given as goal

abbrev pub invariant-loop-k : goal.invariant-loop-k
invariant-loop-k l = (j : ℕ) → j < l.k → Stands l.items j
