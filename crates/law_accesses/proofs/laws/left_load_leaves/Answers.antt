use Rattle.law_accesses.proofs.Masking as proof
use Rattle.law_accesses.proofs.laws.left_load_leaves.Goals as goal

pub returns : goal.returns
returns c = proof.left_load_leaves
