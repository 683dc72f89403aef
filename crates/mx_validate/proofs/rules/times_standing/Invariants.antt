use Rattle.std.proofs.Common.{◌≡◌, ◌≤◌, take}
use Rattle.mx_blocks.specs.Items.{ops, times}
use Rattle.mx_validate.proofs.rules.times_standing.Given as goal

abbrev pub invariant-loop-item : goal.invariant-loop-item
invariant-loop-item l = (l.count ≤ l.item-index) × (l.count ≡ times l.k (ops (take l.item-index l.items)))
