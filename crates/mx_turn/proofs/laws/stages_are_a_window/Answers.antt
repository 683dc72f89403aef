use Rattle.mx_turn.proofs.Fetches.{window_on_fetches}
use Rattle.mx_turn.proofs.laws.stages_are_a_window.Goals as goal

pub returns : goal.returns
returns c = window_on_fetches
