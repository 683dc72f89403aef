use Rattle.std.proofs.Common.{◌≡◌, map, take}
use Rattle.mx_plans.specs.Marks.{item_said}
use Rattle.mx_plans.proofs.proposer.plan_said.Given as goal

abbrev pub invariant-loop-mark : goal.invariant-loop-mark
invariant-loop-mark l = l.items.items ≡ map (item_said l.block) (take l.mark-index l.marks)
