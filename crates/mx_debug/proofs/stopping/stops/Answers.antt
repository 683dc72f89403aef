use Rattle.std.proofs.Common.{◌≡◌, ◌≤◌, [], length, refl, ap, ◌∙◌, arith}
use Rattle.std.proofs.lemmas.Bool.Decides.{nat_tests}
use Rattle.mx_turn.specs.Program.{Program, state_after}
use Rattle.mx_turn.specs.Run.{bits}
use Rattle.mx_debug.specs.Sessions.{Session, session, stops_of, console_of, ending_of, last_of}
use Rattle.mx_debug.proofs.Ends.{ends_of_run}
use Rattle.mx_debug.proofs.stopping.stops.Goals as goal

pub observe-requires-clause-fits : goal.observe-requires-clause-fits
observe-requires-clause-fits g c =
    let none = c.nothing_found-found.ensures in
    let watch = c.requires.watch in (
      (let last = watch.1 in omega (arith, last)),
      (let e = ap length none.console in omega (arith, e)),
      (let e = ap length none.stops in omega (arith, e)),
    )

pub observe-requires-clause-more : goal.observe-requires-clause-more
observe-requires-clause-more g c =
    let limit = c.requires.limit.0 in let e = ap length c.nothing_found-found.ensures.stops in grind (arith, nat_tests)

abbrev asked : (g : _) → goal.After-ending_at g → Program → Session
asked g c p = session p c.args.requests.now c.args.address c.args.limit c.args.watch c.args.budget

-- what was found is that of the session, and so are its ending and the machine
whole : (g : _) (c : goal.After-ending_at g) (p : Program) → g.M.Machine.stands c.args.machine.now p []
    → (c.observe.new.notes.stops.items ≡ stops_of (asked g c p))
    × (c.observe.new.notes.console.items ≡ console_of (asked g c p))
    × (c.ending_at.result ≡ ending_of (asked g c p))
    × (state_after p (bits c.args.requests.now c.in-Ok.reached.cycles) ≡ last_of (asked g c p))
whole g c p s =
    let r = c.in-Ok.reached in
    let e = c.in-Ok.ensures in
    let none = c.nothing_found-found.ensures in
    let saw = e.saw p s refl (none.console, none.stops, λ k less. absurd (omega (arith, less))) in
    let one : 1 ≤ c.args.limit = c.requires.limit.0 in
    let so = ends_of_run (asked g c p) r.cycles _ r.halted c.is_enough-stopped.result saw.1
    (e.halted p s refl) one e.within saw.2 e.fits.2 c.is_enough-stopped.ensures (λ h more. e.whole h more) in
    (saw.1 ∙ so.stops, saw.0 ∙ so.console, c.ending_at.ensures ∙ so.ends, so.last)

pub returns-clause-stops : goal.returns-clause-stops
returns-clause-stops g c = λ p s. (whole g c p s).0

pub returns-clause-console : goal.returns-clause-console
returns-clause-console g c = λ p s. (whole g c p s).1

pub returns-clause-ending : goal.returns-clause-ending
returns-clause-ending g c = λ p s. (whole g c p s).2

pub returns-clause-stands : goal.returns-clause-stands
returns-clause-stands g c = λ p s. (bits c.args.requests.now c.in-Ok.reached.cycles, c.in-Ok.ensures.stands p s refl, (whole g c p s).3)
