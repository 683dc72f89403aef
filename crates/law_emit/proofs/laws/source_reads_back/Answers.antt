use Rattle.law_emit.proofs.Data.{source_read}
use Rattle.law_emit.proofs.laws.source_reads_back.Goals as goal

pub returns : goal.returns
returns c = source_read
