use Rattle.std.proofs.Common.{arith, ap, length}
use Rattle.lab_terms.proofs.Walks.{walk_ends, walk_enough}
use Rattle.lab_terms.proofs.reach.reached.Goals as goal

pub returns-then-count-at : goal.returns-then-count-at
returns-then-count-at c =
    let count = c.count.ensures in
    walk_ends c.args.source.now c.loop-at.walk.seen.items c.loop-at.walk.order.items c.loop-at.at c.loop-at.invariant (omega (arith, count))

pub returns : goal.returns
returns c =
    let all = ap length c.statements-at-end.ensures.value in
    walk_enough c.args.source.now c.loop-at.walk.seen.items c.loop-at.walk.order.items c.loop-at.at c.loop-at.invariant (omega (arith, all))
