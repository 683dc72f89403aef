use Rattle.mx_turn.proofs.OneTurn.{one_turn}
use Rattle.mx_turn.proofs.laws.one_user_turn.Goals as goal

pub returns : goal.returns
returns c = one_turn
