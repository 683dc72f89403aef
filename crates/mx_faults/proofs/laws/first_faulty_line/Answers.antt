use Rattle.mx_faults.proofs.Texts.{first_is}
use Rattle.mx_faults.proofs.laws.first_faulty_line.Goals as goal

pub returns : goal.returns
returns c = first_is
