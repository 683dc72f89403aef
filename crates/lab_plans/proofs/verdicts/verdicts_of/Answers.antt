use Rattle.std.proofs.Common.{◌<◌, length, subst, sym}
use Rattle.lab_plans.proofs.Listed.{verdicts_more}
use Rattle.lab_plans.proofs.verdicts.verdicts_of.Goals as goal

pub loop-i-preserved : goal.loop-i-preserved
loop-i-preserved c =
    let within : c.loop-i.i < length c.args.plans.now = subst (λ n. c.loop-i.i < n) (sym c.requires) c.loop-i-test.true in
    verdicts_more c.args.blocks.now c.args.plans.now c.loop-i.verdicts.items c.push.new.self.items c.loop-i.i
    c.index-blocks-i.result c.index-plans-i.result c.first_broken_rule.result
    c.loop-i-test.true within c.loop-i.invariant c.index-blocks-i.is c.index-plans-i.is c.first_broken_rule.ensures c.in_ok-push.ensures.items
