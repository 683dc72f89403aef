use Rattle.std.proofs.Common.{◌≡◌, ◌++◌, ◌∷◌, [], true, false, sym, ap, ◌∙◌, subst}
use Rattle.mx_turn.specs.declared.latches.Latches.{Latches}
use Rattle.mx_turn.specs.Program.{state_after}
use Rattle.lab_cache.specs.All.{AllHold}
use Rattle.lab_caches.specs.Fetched.{address_in}
use Rattle.lab_caches.proofs.Fetches.{added_by, un_not, un_not_false}
use Rattle.lab_caches.proofs.study.cycle_with.Goals as goal

pub returns-then-not-cycled-clause-fetched : goal.returns-then-not-cycled-clause-fetched
returns-then-not-cycled-clause-fetched g c = λ p h gs s going held.
    let past = (state_after p h).past in
    let shown = c.latches.ensures p (h ++ c.args.request ∷ []) (c.cycle-cycled.ensures.next p h s) in
    let adds = added_by p h c.args.request c.cycle-cycled.result false (c.cycle-cycled.ensures.answer p h s) (un_not _ c.if-not-cycled.true) going in
    subst (λ xs. AllHold c.fetch_in.new.all.groups.items gs xs) (ap (λ (l : Latches). address_in l.fetch ++ past) shown ∙ sym adds)
    (c.fetch_in.ensures gs past held)

pub returns-else-not-cycled-clause-fetched : goal.returns-else-not-cycled-clause-fetched
returns-else-not-cycled-clause-fetched g c = λ p h gs s going held.
    let adds = added_by p h c.args.request c.cycle-cycled.result true (c.cycle-cycled.ensures.answer p h s) (un_not_false _ c.if-not-cycled.false) going in
    subst (λ xs. AllHold c.args.all.now.groups.items gs xs) (sym adds) held
