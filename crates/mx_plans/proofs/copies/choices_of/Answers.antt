use Rattle.std.proofs.Common.{arith}
use Rattle.mx_plans.proofs.Picked.{choices_end}
use Rattle.mx_plans.proofs.copies.choices_of.Goals as goal

pub returns : goal.returns
returns c =
    choices_end c.args.blocks.now c.args.lines.now c.loop-k.k c.loop-k.choices.items (omega (arith, c.loop-k-test.false, c.min-count.ensures))
    c.loop-k.invariant
