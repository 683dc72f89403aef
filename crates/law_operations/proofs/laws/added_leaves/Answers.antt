use Rattle.law_operations.proofs.Numbers as proof
use Rattle.law_operations.proofs.laws.added_leaves.Goals as goal

pub returns : goal.returns
returns c = proof.added_leaves
