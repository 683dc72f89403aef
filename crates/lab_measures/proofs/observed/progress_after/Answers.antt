use Rattle.std.proofs.Common.{ℕ, suc, sym, ap, ◌∙◌, subst}
use Rattle.mx_turn.specs.declared.Cycled.{Cycled}
use Rattle.mx_turn.specs.Run.{bits}
use Rattle.lab_measures.specs.declared.observed.Progress.{Progress}
use Rattle.lab_measures.specs.Entries.{signals_of}
use Rattle.lab_measures.specs.Progress.{Reached, after_turn}
use Rattle.lab_measures.proofs.Noted.{one_cycle}
use Rattle.lab_measures.proofs.observed.progress_after.Goals as goal

pub returns : goal.returns
returns g c = λ p requests comes answered stands reached.
    let s = signals_of p requests in
    let i = c.args.cycle in
    let cycled = c.args.cycled.now in
    let is =
    c.turned.ensures
    ∙ ap (λ (n : ℕ). after_turn n cycled.taken cycled.stalled c.killed_in-alu.result c.asked-asked.result) c.from.ensures
    ∙ ap (after_turn i cycled.taken cycled.stalled c.killed_in-alu.result) c.asked-asked.ensures in
    subst (λ (x : Progress). Reached s (suc i) (suc i) x) (sym is)
    (one_cycle s i c.args.before c.args.request cycled.taken cycled.stalled c.killed_in-alu.result comes
    (ap (λ (r : Cycled). r.taken) answered) (ap (λ (r : Cycled). r.stalled) answered)
    (λ t. c.killed_in-alu.ensures t p (bits requests (suc i)) stands) reached)
