use Rattle.std.proofs.Common.{sym, ◌∙◌}
use Rattle.mx_icache.proofs.SetSteps.{word_here, set_hit}
use Rattle.mx_icache.proofs.line_set.Set.fetch.Goals as goal

pub returns-in-Some-clause-answer : goal.returns-in-Some-clause-answer
returns-in-Some-clause-answer c = λ past h.
    sym c.in-Some.ensures.valid ∙ word_here c.args.self.now past c.args.address c.in-Some.field-0 h c.in-Some.ensures.within c.in-Some.ensures.found

pub returns-in-Some-clause-next : goal.returns-in-Some-clause-next
returns-in-Some-clause-next c = λ past h.
    set_hit c.args.self.now c.args.address past c.in-Some.field-0 h c.in-Some.ensures.within c.in-Some.ensures.found c.in-Some.ensures.valid
