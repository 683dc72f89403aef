use Rattle.mx_reorg.proofs.ExistsItems.{height_of}
use Rattle.mx_reorg.proofs.ExistsPlans.{greedy_exists}
use Rattle.mx_reorg.proofs.Unique.{greedy_unique}
use Rattle.mx_reorg.proofs.ValidPlans.{greedy_valid}
use Rattle.mx_reorg.proofs.laws.greedy_plan_exists.Goals as goal

pub returns-clause-exists : goal.returns-clause-exists
returns-clause-exists c = greedy_exists

pub returns-clause-unique : goal.returns-clause-unique
returns-clause-unique c = λ block plan other g h. greedy_unique block (λ x l. height_of block x) plan other g h

pub returns-clause-valid : goal.returns-clause-valid
returns-clause-valid c = λ block plan g. greedy_valid block plan g (λ x l. height_of block x)
