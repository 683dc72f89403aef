use Rattle.cmd_best.proofs.Plans.{greedy_length_is, shortest_length_is}
use Rattle.cmd_best.proofs.laws.lengths_are_of_plans.Goals as goal

pub returns-clause-greedy : goal.returns-clause-greedy
returns-clause-greedy c = greedy_length_is

pub returns-clause-shortest : goal.returns-clause-shortest
returns-clause-shortest c = shortest_length_is
