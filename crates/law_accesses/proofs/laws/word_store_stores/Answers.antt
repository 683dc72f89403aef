use Rattle.law_accesses.proofs.WholeWords as proof
use Rattle.law_accesses.proofs.laws.word_store_stores.Goals as goal

pub returns : goal.returns
returns c = proof.word_store_stores
