use Rattle.law_schedule.proofs.Layouts.{layout_exists, layout_unique}
use Rattle.law_schedule.proofs.laws.greedy_layout_exists.Goals as goal

pub returns-clause-exists : goal.returns-clause-exists
returns-clause-exists c = λ source place kept. layout_exists source place kept

pub returns-clause-unique : goal.returns-clause-unique
returns-clause-unique c = λ source place sites others l m. layout_unique source place sites others l m
