use Rattle.std.proofs.Common.{◌∙◌, ap, sym, subst}
use Rattle.cc_plan.specs.declared.knowledge.Knowledge.{Knowledge}
use Rattle.cc_plan.specs.Translated.{Goes}
use Rattle.cc_plan.proofs.Learning.{either_true, either_false, nothing_known}
use Rattle.cc_plan.proofs.places.learn_instruction.Goals as goal

pub returns-then-leaves-clause-known : goal.returns-then-leaves-clause-known
returns-then-leaves-clause-known c before after holds read either =
    nothing_known c.args.knowledge.now c.forget_all.new.self after (ap (λ (k : Knowledge). k.points) c.forget_all.ensures.rest)
    (either_true _ _ _ (sym c.leaves.ensures ∙ c.if-leaves.true) either) c.forget_all.ensures.known

pub returns-else-leaves-clause-known : goal.returns-else-leaves-clause-known
returns-else-leaves-clause-known c before after holds read either =
    c.learn.ensures.known before after holds read
    (subst (λ a. Goes c.args.knowledge.now.points a c.args.instruction.now c.args.plan.now before after) (sym c.address_of.ensures)
    (either_false _ _ _ (sym c.leaves.ensures ∙ c.if-leaves.false) either))
