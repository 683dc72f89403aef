use Rattle.mx_faults.proofs.Printing.{reads_back}
use Rattle.mx_faults.proofs.laws.faultless_reads_back.Goals as goal

pub returns : goal.returns
returns c = reads_back
