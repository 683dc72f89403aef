use Rattle.mx_delay.proofs.Steps.{delay_sends}
use Rattle.mx_delay.proofs.laws.console_grows.Goals as goal

pub returns : goal.returns
returns c = delay_sends
