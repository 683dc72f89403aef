use Rattle.law_operations.proofs.Branches as proof
use Rattle.law_operations.proofs.laws.branch_gives.Goals as goal

pub returns : goal.returns
returns c = proof.branch_gives
