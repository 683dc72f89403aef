use Rattle.mx_plans.proofs.Followed.{planned_by_lines}
use Rattle.mx_plans.proofs.laws.copies_follow_lines.Goals as goal

pub returns : goal.returns
returns c = planned_by_lines
