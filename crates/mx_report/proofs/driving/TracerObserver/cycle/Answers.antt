use Rattle.std.proofs.Common.{◌≡◌, ℕ, suc, ◌++◌, ◌∷◌, [], List, Bool, cond, sym, ap, ◌∙◌, subst}
use Rattle.std.specs.Prelude.{nat_lt}
use Rattle.mx_turn.specs.declared.Cycled.{Cycled}
use Rattle.mx_turn.specs.declared.Latches.{Latches}
use Rattle.mx_turn.specs.Program.{answer_after}
use Rattle.mx_turn.specs.Run.{bits}
use Rattle.mx_report.specs.Trace.{trace_line}
use Rattle.mx_report.proofs.Runs.{cycled_at, state_at, sent_next, next_trace}
use Rattle.mx_report.proofs.driving.TracerObserver.cycle.Goals as goal

pub returns-clause-saw : goal.returns-clause-saw
returns-clause-saw g c = λ p reqs comes s going saw.
    let i = c.args.cycle in
    let t = c.args.self.now.lines in
    let old : List ℕ = c.args.notes.now.text.items in
    let answered : c.cycle-cycled.result ≡ cycled_at p reqs i =
    c.cycle-cycled.ensures.answer p (bits reqs i) s ∙ ap (answer_after p (bits reqs i)) comes in
    let later = subst (λ (r : Bool). g.M.Machine.stands c.cycle-cycled.new.self p (bits reqs i ++ r ∷ [])) comes
    (c.cycle-cycled.ensures.next p (bits reqs i) s) in
    let shown : Latches = (state_at p reqs (suc i)).shown in (
      sent_next p reqs i c.args.notes.now.console.items c.push_byte.new.text.items saw.0 c.cycle-cycled.result answered c.in_ok-push_byte.ensures.ok,
      c.in_ok-push_line_if.ensures p (bits reqs (suc i)) later
          ∙ ap (λ (r : Cycled). old ++ cond (nat_lt i t) (trace_line i r shown) []) answered
          ∙ ap (λ l. l ++ cond (nat_lt i t) (trace_line i (cycled_at p reqs i) (state_at p reqs (suc i)).shown) []) saw.1
          ∙ sym (next_trace p reqs t i going),
    )
