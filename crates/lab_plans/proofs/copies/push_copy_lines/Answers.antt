use Rattle.std.proofs.Common.{◌++◌, arith}
use Rattle.lab_plans.specs.Copies.{copy_lines}
use Rattle.lab_plans.proofs.Ends.{copies_end}
use Rattle.lab_plans.proofs.copies.push_copy_lines.Goals as goal

pub returns : goal.returns
returns c =
    copies_end c.args.lines.now c.args.blocks.now c.args.verdicts.now c.loop-i.i c.loop-i.text.items
    (c.args.text.now.items ++ copy_lines c.args.lines.now 1 c.args.blocks.now c.args.verdicts.now)
    (omega (arith, c.loop-i-test.false)) c.loop-i.invariant
