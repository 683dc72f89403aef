use Rattle.std.proofs.Common.{◌≡◌, ◌∷◌, true, false, ap, sym, ◌∙◌, refl, ◌&&◌}
use Rattle.mx_icache.specs.PlainSets.{PlainSetHolds}
use Rattle.mx_icache.specs.Residency.{line_of, set_of, missed_since}
use Rattle.mx_icache.proofs.PlainSteps.{plain_absent, plain_hit, plain_filled, plain_allocated}
use Rattle.mx_icache.proofs.plain_set.PlainSet.fetch.Goals as goal

pub returns-in-Some-clause-next : goal.returns-in-Some-clause-next
returns-in-Some-clause-next c = λ past h.
    elim (c.touch.result) as (λ t. c.touch.result ≡ t → PlainSetHolds c.touch.new.self (c.args.address ∷ past) (set_of (line_of c.args.address))) [
      | true ↦ λ e. rw (c.touch.ensures.hit e)
          (plain_hit c.args.self.now c.args.address past c.in-Some.place h c.in-Some.ensures.small c.in-Some.ensures.found (sym c.touch.ensures.answer ∙ e))
      | false ↦ λ e. plain_filled c.args.self.now c.touch.new.self c.args.address past c.in-Some.place h c.in-Some.ensures.small c.in-Some.ensures.found
          (sym c.touch.ensures.answer ∙ e)
          c.touch.ensures.lines (c.touch.ensures.filled e) c.touch.ensures.others
    ] refl

pub returns-in-None-clause-answer : goal.returns-in-None-clause-answer
returns-in-None-clause-answer c = λ past h.
    ap (λ t. t && missed_since past c.args.address) (sym (plain_absent c.args.self.now past (line_of c.args.address) h c.in-None.ensures.none))

pub returns-in-None-clause-next : goal.returns-in-None-clause-next
returns-in-None-clause-next c = λ past h.
    plain_allocated c.args.self.now c.allocate.new.self c.args.address past h c.in-None.ensures.none
    c.allocate.ensures.lines c.allocate.ensures.word c.allocate.ensures.others
