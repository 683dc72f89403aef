use Rattle.law_accesses.proofs.Pointers as proof
use Rattle.law_accesses.proofs.laws.call_leaves_target.Goals as goal

pub returns : goal.returns
returns c = proof.call
