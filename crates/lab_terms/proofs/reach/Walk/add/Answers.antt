use Rattle.std.proofs.Common.{◌≡◌, sym, subst, true}
use Rattle.std.specs.Prelude.{slice_set}
use Rattle.lab_terms.specs.Flow.{HasCome}
use Rattle.lab_terms.proofs.Walks.{come_one}
use Rattle.lab_terms.proofs.reach.Walk.add.Goals as goal

pub returns-clause-come : goal.returns-clause-come
returns-clause-come c =
    let seen = c.args.self.now.seen.items in
    let order = c.args.self.now.order.items in
    let index = c.args.index in
    subst (HasCome (λ i. i ≡ index) seen order (slice_set seen index true)) (sym c.in_ok-push.ensures.items)
    (come_one seen order index c.requires.within c.requires.fresh)
