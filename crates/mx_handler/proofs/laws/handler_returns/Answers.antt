use Rattle.mx_handler.proofs.Returns.{returns as back}
use Rattle.mx_handler.proofs.laws.handler_returns.Goals as goal

pub returns : goal.returns
returns c = back
