use Rattle.mx_faults.proofs.Printing.{printable}
use Rattle.mx_faults.proofs.laws.faultless_is_printable.Goals as goal

pub returns : goal.returns
returns c = printable
