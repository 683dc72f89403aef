use Rattle.law_operations.proofs.Computing as proof
use Rattle.law_operations.proofs.laws.computed_leaves.Goals as goal

pub returns : goal.returns
returns c = proof.computed_leaves
