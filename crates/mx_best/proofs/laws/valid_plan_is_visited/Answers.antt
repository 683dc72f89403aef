use Rattle.mx_best.proofs.Visited.{valid_is_visited}
use Rattle.mx_best.proofs.laws.valid_plan_is_visited.Goals as goal

pub returns : goal.returns
returns c = valid_is_visited
