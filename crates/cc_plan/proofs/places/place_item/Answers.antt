use Rattle.std.proofs.Common.{◌∙◌, sym, subst}
use Rattle.cc_plan.specs.Placed.{Passes}
use Rattle.cc_plan.proofs.Learning.{either_false, same_known}
use Rattle.cc_plan.proofs.places.place_item.Goals as goal

pub returns-else-is_used-clause-known : goal.returns-else-is_used-clause-known
returns-else-is_used-clause-known c before after holds passes =
    let h = subst (λ item. Passes c.args.program.now c.args.knowledge.now.points item c.args.plan.now before after) c.in-Label.is passes in
    same_known c.args.knowledge.now before after (either_false _ _ _ (sym c.is_used.ensures ∙ c.if-is_used.false) h) holds

pub returns-in-Location-clause-known : goal.returns-in-Location-clause-known
returns-in-Location-clause-known c before after holds passes =
    same_known c.args.knowledge.now before after
    (subst (λ item. Passes c.args.program.now c.args.knowledge.now.points item c.args.plan.now before after) c.in-Location.is passes) holds
