use Rattle.std.proofs.Common.{◌<◌, ◌-◌}
use Rattle.mx_plans.specs.declared.rule.Rule.{Rule}
use Rattle.mx_plans.specs.Rules.{rank, Keeps}
use Rattle.mx_plans.proofs.rule.first_broken_rule.Given as goal

abbrev pub invariant-rules : goal.invariant-rules
invariant-rules l = (other : Rule) → rank other < rank l.rule → Keeps l.block l.plan other

abbrev pub decreases-rules : goal.decreases-rules
decreases-rules l = 8 - rank l.rule
