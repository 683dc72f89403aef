use Rattle.std.proofs.Common.{◌≡◌, ap, ◌∙◌}
use Rattle.mx_turn.specs.Program.{answer_after}
use Rattle.mx_turn.specs.Run.{bits}
use Rattle.mx_report.proofs.Runs.{cycled_at, sent_next}
use Rattle.lab_draw.proofs.drawing.ListenerObserver.cycle.Goals as goal

pub returns-clause-saw : goal.returns-clause-saw
returns-clause-saw g c = λ p reqs comes s going saw.
    let i = c.args.cycle in
    let answered : c.cycle-cycled.result ≡ cycled_at p reqs i =
    c.cycle-cycled.ensures.answer p (bits reqs i) s ∙ ap (answer_after p (bits reqs i)) comes in
    sent_next p reqs i c.args.notes.now.items c.push_byte.new.text.items saw c.cycle-cycled.result answered c.in_ok-push_byte.ensures.ok
