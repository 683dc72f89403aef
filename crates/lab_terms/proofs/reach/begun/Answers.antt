use Rattle.std.proofs.Common.{◌≡◌, ℕ, List, Some, ap, ◌∙◌, subst, length}
use Rattle.std.specs.Prelude.{slice_get}
use Rattle.mx_source.specs.declared.statement.Value.{Value}
use Rattle.mx_source.specs.declared.statement.Value.TheVariants.{Code}
use Rattle.lab_terms.specs.Flow.{IsSeen, HasCome, IsAmongWords}
use Rattle.lab_terms.proofs.Walks.{walk_begins}
use Rattle.lab_terms.proofs.reach.begun.Goals as goal

pub returns : goal.returns
returns c =
    let start = c.in_ok-walk.walk in
    let first = c.visit.new.self in
    let last = c.visit_data.new.self in
    walk_begins c.args.source.now start.seen.items first.seen.items last.seen.items
    start.order.items first.order.items last.order.items
    (c.in_ok-walk.ensures.size ∙ ap length c.statements.ensures.value) c.in_ok-walk.ensures.none c.in_ok-walk.ensures.order
    c.in_ok-visit.ensures.come c.in_ok-visit.ensures.seen
    (subst (λ (words : List Value). HasCome (IsAmongWords words) first.seen.items first.order.items last.seen.items last.order.items)
    c.user_data.ensures.value c.in_ok-visit_data.ensures.come)
    (subst (λ (words : List Value). (k index : ℕ) → slice_get words k ≡ Some (Code index) → IsSeen last.seen.items index)
    c.user_data.ensures.value c.in_ok-visit_data.ensures.seen)
