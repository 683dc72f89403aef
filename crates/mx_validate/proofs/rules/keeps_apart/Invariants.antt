use Rattle.std.proofs.Common.{◌≡◌, ℕ, ◌<◌, suc, false}
use Rattle.mx_depend.specs.Independence.{feeds}
use Rattle.mx_depend.specs.Graphs.{inst_at}
use Rattle.mx_blocks.specs.Items.{StandsAt}
use Rattle.mx_validate.proofs.rules.keeps_apart.Given as goal

abbrev pub invariant-loop-p : goal.invariant-loop-p
invariant-loop-p l =
    (r k j : ℕ) → suc r < l.p → StandsAt l.items r k → StandsAt l.items (suc r) j → feeds (inst_at l.insts k) (inst_at l.insts j) ≡ false
