use Rattle.mx_command.proofs.GreedyLayouts.{greedy_is}
use Rattle.mx_command.proofs.laws.greedy_layout_is.Goals as goal

pub returns : goal.returns
returns c = greedy_is
