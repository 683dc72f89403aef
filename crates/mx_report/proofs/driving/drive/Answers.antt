use Rattle.std.proofs.Common.{◌≡◌, [], arith, refl, ap, ◌∙◌}
use Rattle.std.specs.Prelude.{min}
use Rattle.mx_turn.specs.Program.{Program}
use Rattle.mx_turn.specs.Run.{bits, console_after}
use Rattle.mx_report.specs.Driving.{trace_text}
use Rattle.mx_report.proofs.Runs.{console_end, trace_end}
use Rattle.mx_report.proofs.driving.drive.Goals as goal

-- the console and the trace are those of the whole budget
whole : (g : _) (c : goal.After-counts g) (p : Program) → g.M.Machine.stands c.args.machine.now p []
    → (c.observe.new.notes.console.items ≡ console_after p (bits c.args.requests.now c.args.budget))
    × (c.observe.new.notes.text.items ≡ trace_text p c.args.requests.now (min c.args.trace c.args.budget))
whole g c p s =
    let reqs = c.args.requests.now in
    let r = c.in-Ok.reached in
    let e = c.in-Ok.ensures in
    let none : 0 ≡ min c.args.trace 0 = omega arith in
    let start = c.nothing_traced-traced.ensures in
    let saw = e.saw p s refl (start.console, start.text ∙ ap (trace_text p reqs) none) in
    let is = e.halted p s refl in (
      saw.0 ∙ console_end p reqs r.cycles c.args.budget r.halted is e.within (λ h. e.whole h refl),
      saw.1 ∙ trace_end p reqs r.cycles c.args.budget r.halted is e.within (λ h. e.whole h refl) c.args.trace,
    )

pub returns-clause-console : goal.returns-clause-console
returns-clause-console g c = λ p s. (whole g c p s).0

pub returns-clause-trace : goal.returns-clause-trace
returns-clause-trace g c = λ p s. (whole g c p s).1
