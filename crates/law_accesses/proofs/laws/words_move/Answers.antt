use Rattle.law_accesses.proofs.Links as proof
use Rattle.law_accesses.proofs.laws.words_move.Goals as goal

pub returns : goal.returns
returns c = record { load = proof.load; store = proof.store }
