use Rattle.mx_asm.proofs.PrintedTexts.{printed_reads}
use Rattle.mx_asm.proofs.laws.printed_reads_back.Goals as goal

pub returns : goal.returns
returns c = printed_reads
