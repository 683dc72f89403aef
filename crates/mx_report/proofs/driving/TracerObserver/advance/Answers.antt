use Rattle.std.proofs.Common.{◌≡◌, ◌+◌, arith, ap, ◌∙◌}
use Rattle.std.specs.Prelude.{min}
use Rattle.mx_report.specs.Driving.{trace_text}
use Rattle.mx_report.proofs.Runs.{sent_quiet}
use Rattle.mx_report.proofs.driving.TracerObserver.advance.Goals as goal

pub returns-clause-saw : goal.returns-clause-saw
returns-clause-saw g c = λ p reqs are s going saw.
    let i = c.args.cycle in
    let done = c.in_ok-done.done in
    let lines = c.args.self.now.lines in
    let same : min lines i ≡ min lines (done + i) = omega arith in (
      sent_quiet p reqs i c.args.notes.now.console.items c.advance.new.console.items saw.0 done are (c.in_ok-done.ensures.console p _ s),
      saw.1 ∙ ap (trace_text p reqs) same,
    )
