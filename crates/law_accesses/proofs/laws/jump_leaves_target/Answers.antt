use Rattle.law_accesses.proofs.Pointers as proof
use Rattle.law_accesses.proofs.laws.jump_leaves_target.Goals as goal

pub returns : goal.returns
returns c = proof.jump
