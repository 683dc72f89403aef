use Rattle.mx_delay.proofs.Steps.{delay_halted}
use Rattle.mx_delay.proofs.laws.halt_stays.Goals as goal

pub returns : goal.returns
returns c = delay_halted
