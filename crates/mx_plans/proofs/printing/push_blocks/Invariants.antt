use Rattle.std.proofs.Common.{◌≡◌, ◌++◌, take}
use Rattle.mx_plans.specs.Printed.{plans_text}
use Rattle.mx_plans.proofs.printing.push_blocks.Given as goal

abbrev pub invariant-loop-block : goal.invariant-loop-block
invariant-loop-block l = l.text.items ≡ l.fn.text.items ++ plans_text (take l.block-index l.blocks)
