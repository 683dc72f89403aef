use Rattle.law_accesses.proofs.Masking as proof
use Rattle.law_accesses.proofs.laws.right_load_leaves.Goals as goal

pub returns : goal.returns
returns c = proof.right_load_leaves
