use Rattle.mx_faults.proofs.Printing.{sound}
use Rattle.mx_faults.proofs.laws.faultless_is_sayable.Goals as goal

pub returns : goal.returns
returns c = sound
