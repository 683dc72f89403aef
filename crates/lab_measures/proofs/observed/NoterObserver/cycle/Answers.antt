use Rattle.std.proofs.Common.{◌≡◌, ◌++◌, ◌∷◌, [], Bool, ap, sym, ◌∙◌, subst, append_assoc}
use Rattle.mx_turn.specs.Program.{answer_after}
use Rattle.mx_turn.specs.Run.{bits}
use Rattle.mx_report.proofs.Runs.{cycled_at, sent_next}
use Rattle.lab_measures.proofs.observed.NoterObserver.cycle.Goals as goal

pub returns-clause-saw : goal.returns-clause-saw
returns-clause-saw g c = λ p reqs comes s going saw.
    let i = c.args.cycle in
    let before = c.args.self.now.before.now in
    let answered : c.cycle-cycled.result ≡ cycled_at p reqs i =
    c.cycle-cycled.ensures.answer p (bits reqs i) s ∙ ap (answer_after p (bits reqs i)) comes in
    let later = subst (λ (r : Bool). g.M.Machine.stands c.cycle-cycled.new.self p (bits reqs i ++ r ∷ [])) comes
    (c.cycle-cycled.ensures.next p (bits reqs i) s) in (
      sent_next p reqs i (before ++ c.args.notes.now.console.items) (before ++ c.push_byte.new.text.items) saw.0 c.cycle-cycled.result answered
          (ap (λ l. before ++ l) c.in_ok-push_byte.ensures.ok ∙ sym (append_assoc before c.args.notes.now.console.items _)),
      c.progress_after-notes.ensures p reqs comes answered later saw.1,
    )
