use Rattle.std.proofs.Common.{ap, subst}
use Rattle.cc_plan.specs.declared.knowledge.Knowledge.{Knowledge}
use Rattle.cc_plan.specs.Placed.{Performs}
use Rattle.cc_plan.proofs.Learning.{one_forgotten, same_known}
use Rattle.cc_plan.proofs.places.place_step.Goals as goal

pub returns-in-Gone-clause-known : goal.returns-in-Gone-clause-known
returns-in-Gone-clause-known c before after holds read performs = let k = c.args.knowledge.now in
    same_known k before after
    (subst (λ step. Performs c.args.program.now k.points c.args.instruction.now c.args.symbol c.args.plan.now step before after) c.in-Gone.is performs)
    holds

pub returns-in-Split-clause-known : goal.returns-in-Split-clause-known
returns-in-Split-clause-known c before after holds read performs = let k = c.args.knowledge.now in
    let h = subst (λ step. Performs c.args.program.now k.points c.args.instruction.now c.args.symbol c.args.plan.now step before after)
    c.in-Split.is performs in
    one_forgotten k c.forget_register.new.self c.in-Split.into.0 before after (ap (λ (x : Knowledge). x.points) c.forget_register.ensures.rest)
    holds h.0 h.1 h.2 c.forget_register.ensures.known
