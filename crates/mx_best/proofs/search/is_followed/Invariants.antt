use Rattle.std.proofs.Common.{ℕ, ◌<◌}
use Rattle.mx_depend.specs.Graphs.{IsEdge}
use Rattle.mx_validate.specs.Padded.{insts_of}
use Rattle.mx_reorg.specs.Greedy.{Stands}
use Rattle.mx_best.proofs.search.is_followed.Given as goal

abbrev pub invariant-loop-y : goal.invariant-loop-y
invariant-loop-y l = (j : ℕ) → j < l.y → IsEdge (insts_of l.block) l.block.input l.k j → Stands l.behind j
