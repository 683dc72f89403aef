use Rattle.std.proofs.Common.{◌++◌, ap, sym, ◌∙◌, append_assoc}
use Rattle.mx_report.proofs.Runs.{sent_quiet}
use Rattle.lab_measures.specs.Entries.{signals_of}
use Rattle.lab_measures.proofs.Noted.{quiet_cycles}
use Rattle.lab_measures.proofs.Quiet.{none_asked}
use Rattle.lab_measures.proofs.observed.NoterObserver.advance.Goals as goal

pub returns-clause-saw : goal.returns-clause-saw
returns-clause-saw g c = λ p reqs are s going saw.
    let i = c.args._cycle in
    let before = c.args.self.now.before.now in
    let done = c.in_ok-done.done in (
      sent_quiet p reqs i (before ++ c.args.notes.now.console.items) (before ++ c.advance.new.console.items) saw.0 done are
          (ap (λ l. before ++ l) (c.in_ok-done.ensures.console p _ s) ∙ sym (append_assoc before c.args.notes.now.console.items _)),
      quiet_cycles (signals_of p reqs) i done c.args.notes.now.progress (sym c.is_open.ensures ∙ c.if-is_open.false) (none_asked reqs i done are) saw.1,
    )
