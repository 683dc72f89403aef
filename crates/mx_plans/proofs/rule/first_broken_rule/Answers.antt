use Rattle.std.proofs.Common.{◌≡◌, ◌+◌, sym, ◌∙◌, arith}
use Rattle.std.proofs.lemmas.Bool.{false≢true}
use Rattle.mx_plans.specs.declared.rule.Rule.TheVariants.{Once}
use Rattle.mx_plans.specs.Rules.{rank}
use Rattle.mx_plans.proofs.Rules.{rank_small, kept_more, kept_to, valid_by_rules, below_first}
use Rattle.mx_plans.proofs.rule.first_broken_rule.Goals as goal

pub rules-init : goal.rules-init
rules-init c = λ other l. absurd (below_first other l)

pub keeps-requires : goal.keeps-requires
keeps-requires c = λ l. c.rules.invariant Once l

pub returns-then-not-keeps : goal.returns-then-not-keeps
returns-then-not-keeps c = record {
  broken = λ k. absurd (false≢true (sym c.if-not-keeps.true ∙ c.keeps.ensures.1 k));
  before = c.rules.invariant;
}

pub rules-preserved : goal.rules-preserved
rules-preserved c = kept_more c.args.block.now c.args.plan.now c.rules.rule c.in-Some.later c.in-Some.ensures c.rules.invariant
    (c.keeps.ensures.0 c.if-not-keeps.false)

pub rules-smaller : goal.rules-smaller
rules-smaller c = let few = rank_small c.rules.rule in let e : rank c.in-Some.later ≡ rank c.rules.rule + 1 = c.in-Some.ensures in omega arith

pub returns-in-None : goal.returns-in-None
returns-in-None c = valid_by_rules c.args.block.now c.args.plan.now (λ other.
    let few = rank_small other in
    let e : rank c.rules.rule ≡ 7 = c.in-None.ensures in
    kept_to c.args.block.now c.args.plan.now c.rules.rule c.rules.invariant (c.keeps.ensures.0 c.if-not-keeps.false) other (omega arith))
