use Rattle.mx_report.proofs.Runs.{sent_quiet}
use Rattle.lab_draw.proofs.drawing.ListenerObserver.advance.Goals as goal

pub returns-clause-saw : goal.returns-clause-saw
returns-clause-saw g c = λ p reqs are s going saw.
    sent_quiet p reqs c.args._cycle c.args.notes.now.items c.advance.new.console.items saw c.in_ok-done.done are (c.in_ok-done.ensures.console p _ s)
