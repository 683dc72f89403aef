use Rattle.law_emit.proofs.Fits.{translation_read}
use Rattle.law_emit.proofs.laws.translation_reads_back.Goals as goal

pub returns : goal.returns
returns c = translation_read
