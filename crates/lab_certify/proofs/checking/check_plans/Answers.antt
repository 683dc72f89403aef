use Rattle.std.proofs.Common.{◌<◌, length, sym, subst, arith}
use Rattle.mx_validate.specs.Validity.{Valid}
use Rattle.lab_certify.specs.Checks.{IsBrokenBy}
use Rattle.lab_certify.proofs.Both.{go_on, stop_at, all_places}
use Rattle.lab_certify.proofs.checking.check_plans.Goals as goal

pub returns-in-Err-clause-rejected : goal.returns-in-Err-clause-rejected
returns-in-Err-clause-rejected c =
    let low : c.loop-k.k < length c.args.plans.now = subst (λ n. c.loop-k.k < n) (sym c.requires) c.loop-k-test.true in
    stop_at Valid c.args.blocks.now c.args.plans.now IsBrokenBy c.in-Err.rejection c.loop-k.k c.index-blocks-k.result c.index-plans-k.result
    c.loop-k-test.true low c.index-blocks-k.is c.index-plans-k.is c.in-Err.ensures.rejected c.loop-k.invariant

pub loop-k-preserved : goal.loop-k-preserved
loop-k-preserved c =
    let low : c.loop-k.k < length c.args.plans.now = subst (λ n. c.loop-k.k < n) (sym c.requires) c.loop-k-test.true in
    go_on Valid c.args.blocks.now c.args.plans.now c.loop-k.k c.index-blocks-k.result c.index-plans-k.result c.loop-k-test.true low
    c.index-blocks-k.is c.index-plans-k.is c.in_default.ensures.valid c.loop-k.invariant

pub returns-clause-valid : goal.returns-clause-valid
returns-clause-valid c = all_places Valid c.args.blocks.now c.args.plans.now c.loop-k.k c.loop-k.invariant (omega (arith, c.loop-k-test.false))
