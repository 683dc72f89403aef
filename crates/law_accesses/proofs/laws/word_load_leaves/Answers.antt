use Rattle.law_accesses.proofs.WholeWords as proof
use Rattle.law_accesses.proofs.laws.word_load_leaves.Goals as goal

pub returns : goal.returns
returns c = proof.word_load_leaves
