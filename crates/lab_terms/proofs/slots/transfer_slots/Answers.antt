use Rattle.std.proofs.Common.{ap, ◌∙◌, sym, fold}
use Rattle.lab_terms.specs.Slots.{and_one, counted, fillings_at, fillings_to}
use Rattle.lab_terms.proofs.Counting.{counted_those, one_more}
use Rattle.lab_terms.proofs.slots.transfer_slots.Goals as goal

pub loop-at-preserved : goal.loop-at-preserved
loop-at-preserved c =
    let statements = c.args.statements.now in
    let code = c.args.code.now in
    let origin = c.args.origin.now in
    let at = c.loop-at.at in
    c.with_those_of-slots.ensures
    ∙ ap (λ s. fold and_one s (fillings_at statements code origin at)) c.loop-at.invariant
    ∙ sym (counted_those (fillings_to statements code origin at) (fillings_at statements code origin at))
    ∙ ap (λ n. counted (fillings_to statements code origin n)) (one_more at)
