use Rattle.std.proofs.Common.{ℕ, ◌<◌}
use Rattle.mx_depend.specs.Independence.{Independent}
use Rattle.mx_depend.specs.Graphs.{inst_at}
use Rattle.mx_blocks.specs.Items.{StandsAt}
use Rattle.mx_validate.proofs.rules.may_stand_before_rest.Given as goal

abbrev pub invariant-loop-q : goal.invariant-loop-q
invariant-loop-q l =
    (r k j : ℕ) → r < l.q → StandsAt l.items l.p k → StandsAt l.items r j → l.p < r → j < k → Independent (inst_at l.insts j) (inst_at l.insts k) l.input
