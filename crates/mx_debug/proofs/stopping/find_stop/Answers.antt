use Rattle.std.proofs.Common.{◌≡◌, ◌++◌, suc, Bool, [], ◌∷◌, length, ap, ◌∙◌, subst}
use Rattle.mx_turn.specs.Program.{Program, answer_after}
use Rattle.mx_turn.specs.Run.{is_requested, bits, console_after}
use Rattle.std.specs.Prelude.{List, ℕ}
use Rattle.mx_report.proofs.Runs.{cycled_at, sent_next}
use Rattle.mx_debug.proofs.Steps.{next_stops}
use Rattle.mx_debug.proofs.stopping.find_stop.Goals as goal

-- the answer is that of the cycle
answered : (g : _) (c : goal.In_ok-push_if_stop g) (p : Program) (requests : List ℕ) → c.args.request ≡ is_requested requests c.args.cycle
    → g.M.Machine.stands c.args.machine.now p (bits requests c.args.cycle) → c.cycle-cycled.result ≡ cycled_at p requests c.args.cycle
answered g c p requests comes s =
    let h : List Bool = bits requests c.args.cycle in c.cycle-cycled.ensures.answer p h s ∙ ap (answer_after p h) comes

-- its byte is sent
sent : (g : _) (c : goal.In_ok-push_if_stop g) (p : Program) (requests : List ℕ) → c.args.request ≡ is_requested requests c.args.cycle
    → g.M.Machine.stands c.args.machine.now p (bits requests c.args.cycle)
    → c.args.found.now.console.items ≡ console_after p (bits requests c.args.cycle)
    → c.push_byte.new.text.items ≡ console_after p (bits requests (suc c.args.cycle))
sent g c p requests comes s before =
    sent_next p requests c.args.cycle c.args.found.now.console.items c.push_byte.new.text.items before c.cycle-cycled.result
    (answered g c p requests comes s) c.in_ok-push_byte.ensures.ok

pub returns-clause-console : goal.returns-clause-console
returns-clause-console g c = λ p reqs comes s before. c.in_ok-push_if_stop.ensures.console ∙ sent g c p reqs comes s before

pub returns-clause-stops : goal.returns-clause-stops
returns-clause-stops g c = λ p reqs comes s console before.
    let i = c.args.cycle in
    let later = subst (λ (r : Bool). g.M.Machine.stands c.cycle-cycled.new.self p (bits reqs i ++ r ∷ [])) comes
    (c.cycle-cycled.ensures.next p (bits reqs i) s) in
    next_stops p reqs c.args.asked.now.address c.args.asked.now.watch i c.args.found.now.stops.items c.push_if_stop.new.found.stops.items
    c.cycle-cycled.result (length c.push_byte.new.text.items)
    (answered g c p reqs comes s) (ap length (sent g c p reqs comes s console)) before (c.in_ok-push_if_stop.ensures.stops p (bits reqs (suc i)) later)
