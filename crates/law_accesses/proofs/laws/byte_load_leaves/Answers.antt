use Rattle.law_accesses.proofs.PartLoads as proof
use Rattle.law_accesses.proofs.laws.byte_load_leaves.Goals as goal

pub returns : goal.returns
returns c = proof.byte_load_leaves
