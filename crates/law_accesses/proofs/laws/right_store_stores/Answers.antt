use Rattle.law_accesses.proofs.MaskedStores as proof
use Rattle.law_accesses.proofs.laws.right_store_stores.Goals as goal

pub returns : goal.returns
returns c = proof.right_store_stores
