use Rattle.std.proofs.Common.{◌≡◌, ◌∷◌, true, false, ap, sym, ◌∙◌, refl, ◌&&◌}
use Rattle.mx_icache.specs.LineSets.{SetHolds}
use Rattle.mx_icache.specs.Residency.{line_of, set_of, missed_since}
use Rattle.mx_icache.proofs.SetSteps.{line_absent, set_hit, set_filled, set_allocated}
use Rattle.mx_icache.proofs.line_set.Set.take.Goals as goal

pub returns-in-Some-clause-next : goal.returns-in-Some-clause-next
returns-in-Some-clause-next c = λ past h.
    elim (c.touch.result) as (λ t. c.touch.result ≡ t → SetHolds c.touch.new.self (c.args.address ∷ past) (set_of (line_of c.args.address))) [
      | true ↦ λ e. rw (c.touch.ensures.hit e)
          (set_hit c.args.self.now c.args.address past c.in-Some.way h c.in-Some.ensures.within c.in-Some.ensures.found (sym c.touch.ensures.answer ∙ e))
      | false ↦ λ e. set_filled c.args.self.now c.touch.new.self c.args.address past c.in-Some.way h c.in-Some.ensures.within c.in-Some.ensures.found
          (sym c.touch.ensures.answer ∙ e)
          c.touch.ensures.next c.touch.ensures.lines (c.touch.ensures.filled e) c.touch.ensures.others
    ] refl

pub returns-in-None-clause-answer : goal.returns-in-None-clause-answer
returns-in-None-clause-answer c = λ past h.
    ap (λ t. t && missed_since past c.args.address) (sym (line_absent c.args.self.now past (line_of c.args.address) h c.in-None.ensures.none))

pub returns-in-None-clause-next : goal.returns-in-None-clause-next
returns-in-None-clause-next c = λ past h.
    set_allocated c.args.self.now c.allocate.new.self c.args.address past h c.in-None.ensures.none
    c.allocate.ensures.next c.allocate.ensures.line c.allocate.ensures.word c.allocate.ensures.lines c.allocate.ensures.words
