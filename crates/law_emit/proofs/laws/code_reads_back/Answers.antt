use Rattle.law_emit.proofs.Lines.{code_read}
use Rattle.law_emit.proofs.laws.code_reads_back.Goals as goal

pub returns : goal.returns
returns c = code_read
