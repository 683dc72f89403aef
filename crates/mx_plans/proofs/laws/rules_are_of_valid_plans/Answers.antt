use Rattle.mx_plans.proofs.Rules.{valid_keeps_rules, verdict_is_one}
use Rattle.mx_plans.proofs.laws.rules_are_of_valid_plans.Goals as goal

pub returns-clause-valid : goal.returns-clause-valid
returns-clause-valid c = valid_keeps_rules

pub returns-clause-one : goal.returns-clause-one
returns-clause-one c = verdict_is_one
