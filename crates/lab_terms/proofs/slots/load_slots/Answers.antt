use Rattle.std.proofs.Common.{ap, ◌∙◌, sym, fold}
use Rattle.lab_terms.specs.Slots.{and_place, counted_places, after_load_at, after_loads}
use Rattle.lab_terms.proofs.Counting.{places_those, one_more}
use Rattle.lab_terms.proofs.slots.load_slots.Goals as goal

pub loop-at-preserved : goal.loop-at-preserved
loop-at-preserved c =
    let statements = c.args.statements.now in
    let origin = c.args.origin.now in
    let at = c.loop-at.at in
    c.with_that_of-slots.ensures
    ∙ ap (λ s. fold and_place s (after_load_at statements origin at)) c.loop-at.invariant
    ∙ sym (places_those (after_loads statements origin at) (after_load_at statements origin at))
    ∙ ap (λ n. counted_places (after_loads statements origin n)) (one_more at)
