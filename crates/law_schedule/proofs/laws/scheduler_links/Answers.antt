use Rattle.law_schedule.proofs.Kept.{linked_sites, overlong_sites}
use Rattle.law_schedule.proofs.laws.scheduler_links.Goals as goal

pub returns-clause-linked : goal.returns-clause-linked
returns-clause-linked c = λ layout_of is filling source l k. linked_sites layout_of is filling source l k

pub returns-clause-too_long : goal.returns-clause-too_long
returns-clause-too_long c = λ layout_of is source found t. overlong_sites layout_of is source found t
