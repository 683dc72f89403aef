use Rattle.law_emit.proofs.Statements.{line_reads}
use Rattle.law_emit.proofs.laws.line_reads_back.Goals as goal

pub returns : goal.returns
returns c = line_reads
