use Rattle.law_accesses.proofs.PartStores as proof
use Rattle.law_accesses.proofs.laws.half_store_stores.Goals as goal

pub returns : goal.returns
returns c = proof.half_store_stores
