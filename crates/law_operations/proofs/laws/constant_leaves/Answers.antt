use Rattle.law_operations.proofs.Numbers as proof
use Rattle.law_operations.proofs.laws.constant_leaves.Goals as goal

pub returns : goal.returns
returns c = proof.constant_leaves
