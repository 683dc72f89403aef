use Rattle.law_operations.proofs.Branches as proof
use Rattle.law_operations.proofs.laws.comparison_leaves.Goals as goal

pub returns : goal.returns
returns c = proof.comparison_leaves
