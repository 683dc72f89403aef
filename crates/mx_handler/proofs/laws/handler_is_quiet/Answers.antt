use Rattle.mx_handler.proofs.Quiet.{quiet}
use Rattle.mx_handler.proofs.laws.handler_is_quiet.Goals as goal

pub returns : goal.returns
returns c = quiet
