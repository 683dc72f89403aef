use Rattle.mx_plans.proofs.Greedy.{greedy_plan_is}
use Rattle.mx_plans.proofs.laws.greedy_plan_is_printed.Goals as goal

pub returns : goal.returns
returns c = greedy_plan_is
