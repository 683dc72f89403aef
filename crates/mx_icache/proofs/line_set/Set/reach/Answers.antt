use Rattle.std.proofs.Common.{arith}
use Rattle.mx_icache.proofs.SetSteps.{word_in_line}
use Rattle.mx_icache.proofs.line_set.Set.reach.Goals as goal

pub returns-in-Some-clause-resident : goal.returns-in-Some-clause-resident
returns-in-Some-clause-resident c = λ past h j lt.
    word_in_line c.args.self.now past c.args.address j c.in-Some.way h c.in-Some.ensures.within c.in-Some.ensures.found
    (let inside = c.valid_from.ensures.within in omega (arith, lt, inside))
    (c.valid_from.ensures.valid j lt)
