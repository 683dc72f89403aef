use Rattle.std.proofs.Common.{ℕ, ◌<◌}
use Rattle.mx_depend.specs.Independence.{Independent}
use Rattle.mx_depend.specs.Graphs.{inst_at}
use Rattle.mx_blocks.specs.Items.{StandsAt}
use Rattle.mx_validate.proofs.rules.keeps_order.Given as goal

abbrev pub invariant-loop-p : goal.invariant-loop-p
invariant-loop-p l =
    (r q k j : ℕ) → r < l.p → StandsAt l.items r k → StandsAt l.items q j → r < q → j < k → Independent (inst_at l.insts j) (inst_at l.insts k) l.input
