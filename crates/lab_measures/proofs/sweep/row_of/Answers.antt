use Rattle.std.proofs.Common.{◌≡◌, ◌<◌, ◌++◌, List, ℕ, false, arith, sym, ap, ◌∙◌}
use Rattle.mx_turn.specs.Run.{is_requested}
use Rattle.lab_measures.proofs.Beside.{none_before, row_is}
use Rattle.lab_measures.proofs.sweep.row_of.Goals as goal

pub returns-clause-row : goal.returns-clause-row
returns-clause-row c = λ come.
    let are = c.in_ok-requests.ensures in
    let sent = c.args.forward.now.notes.console.items in
    let order = c.requires.order in
    let quiet : (k : ℕ) → k < c.args.forward.now.cycle → is_requested c.in_ok-requests.requests k ≡ false =
    λ k l. ap (λ (requests : List ℕ). is_requested requests k) are ∙ none_before c.args.first k c.args.second (omega arith) c.requires.rising in
    let told = c.in_ok-run.ensures _ come quiet in
    let joined = ap (λ l. l ++ c.deref.result.now) c.console.ensures ∙ ap (λ l. sent ++ l) (c.deref.ensures.value ∙ ap (λ r. r.console.items) c.run.view_is) in
    row_is _ _ _ _ sent c.in_ok-run.run' _ are told (ap (λ r. r.counts.cycles) c.run.view_is) (ap (λ r. r.halted) c.run.view_is)
    (ap (λ r. r.entry) c.run.view_is) (λ is. sym joined ∙ c.are_joined.ensures.yes is) (λ is. c.are_joined.ensures.no (joined ∙ is))
