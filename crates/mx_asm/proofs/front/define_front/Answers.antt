use Rattle.std.proofs.Common.{sym, ◌∙◌}
use Rattle.mx_asm.proofs.Labelled.{front_step}
use Rattle.mx_asm.proofs.front.define_front.Goals as goal

pub loop-rest-preserved : goal.loop-rest-preserved
loop-rest-preserved c =
    let step = front_step c.loop-rest.labels c.define_own.new.labels _ c.args.label c.loop-rest.rest.now c.first_name.result.now c.loop-rest.repeated
    c.in_ok-repeated.field-0 _
    (sym c.begins_label.ensures.front ∙ c.loop-rest-test.true) c.first_name.ensures c.in_ok-repeated.ensures.labels c.in_ok-repeated.ensures.repeated
    c.loop-rest.invariant.defined c.loop-rest.invariant.repeated in
    record { defined = step.0; repeated = step.1 }
