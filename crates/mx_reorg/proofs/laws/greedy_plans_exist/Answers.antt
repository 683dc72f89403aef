use Rattle.mx_reorg.proofs.ExistsLayouts.{plans_exist, plans_unique}
use Rattle.mx_reorg.proofs.laws.greedy_plans_exist.Goals as goal

pub returns-clause-exist : goal.returns-clause-exist
returns-clause-exist c = plans_exist

pub returns-clause-unique : goal.returns-clause-unique
returns-clause-unique c = plans_unique
