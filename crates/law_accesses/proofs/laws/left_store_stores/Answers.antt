use Rattle.law_accesses.proofs.MaskedStores as proof
use Rattle.law_accesses.proofs.laws.left_store_stores.Goals as goal

pub returns : goal.returns
returns c = proof.left_store_stores
