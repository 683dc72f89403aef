use Rattle.law_schedule.proofs.Kept.{linked_layout, none_rejected, overlong_layout, overlong_rejected}
use Rattle.law_schedule.proofs.laws.greedy_is_kept.Goals as goal

pub returns-clause-linked : goal.returns-clause-linked
returns-clause-linked c = λ filling source place l k. (linked_layout filling source place l k, none_rejected filling source place l k)

pub returns-clause-too_long : goal.returns-clause-too_long
returns-clause-too_long c = λ source place found t. (overlong_layout source place found t, overlong_rejected source place found t)
