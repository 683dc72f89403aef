use Rattle.law_accesses.proofs.Links as proof
use Rattle.law_accesses.proofs.laws.link_load_takes.Goals as goal

pub returns : goal.returns
returns c = proof.link
