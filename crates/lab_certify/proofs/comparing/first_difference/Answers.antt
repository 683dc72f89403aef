use Rattle.std.proofs.Common.{arith}
use Rattle.lab_certify.proofs.Same.{same_lists}
use Rattle.lab_certify.proofs.comparing.first_difference.Goals as goal

pub returns : goal.returns
returns c =
    let longest = c.max-longest.ensures in
    same_lists c.args.expected.now c.args.found.now c.loop-i.i c.loop-i.invariant (omega (arith, c.loop-i-test.false, longest))
    (omega (arith, c.loop-i-test.false, longest))
