use Rattle.mx_best.proofs.Fewest.{shortest_exists}
use Rattle.mx_best.proofs.laws.shortest_plan_exists.Goals as goal

pub returns : goal.returns
returns c = shortest_exists
