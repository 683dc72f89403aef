use Rattle.std.proofs.Common.{◌∙◌, ⊎_elim, inl, inr, not, ap, sym, subst}
use Rattle.cc_plan.specs.declared.knowledge.Knowledge.{Knowledge}
use Rattle.cc_plan.specs.Knowing.{Keeps, is_by_one, is_left}
use Rattle.cc_plan.proofs.Learning.{learned}
use Rattle.cc_plan.proofs.knowledge.Knowledge.learn.Goals as goal

pub returns-clause-known : goal.returns-clause-known
returns-clause-known c before after holds read goes =
    let points1 = ap (λ (k : Knowledge). k.points) c.forget_clobbered.ensures.rest in
    let points2 = ap (λ (k : Knowledge). k.points) c.forget_written.ensures.rest in
    let points3 = ap (λ (k : Knowledge). k.points) c.note_given.ensures.rest in
    learned c.args.self.now c.forget_clobbered.new.self c.forget_written.new.self c.note_given.new.self c.args.address c.args.instruction.now
    c.args.plan.now c.computed-known.result c.writes.result before after holds goes
    (λ w given. c.computed-known.ensures before w holds read given)
    (subst (λ rs. Keeps (λ n known. not (is_by_one c.args.self.now.points rs known)) c.args.self.now.known c.forget_clobbered.new.self.known)
    c.clobbered.ensures c.forget_clobbered.ensures.known)
    c.writes.ensures
    (subst (λ p. Keeps (λ n known. is_left p c.writes.result n known) c.forget_clobbered.new.self.known c.forget_written.new.self.known)
    points1 c.forget_written.ensures.known)
    (λ n known at. ⊎_elim (λ h. inl (sym c.target.ensures ∙ h.0, h.1, h.2)) inr (c.note_given.ensures.known n known at))
    (points3 ∙ points2 ∙ points1)
