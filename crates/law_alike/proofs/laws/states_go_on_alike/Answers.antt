use Rattle.law_alike.proofs.Cycles as proof
use Rattle.law_alike.proofs.laws.states_go_on_alike.Goals as goal

pub returns : goal.returns
returns c = record { states = proof.states_alike; bytes = proof.bytes_alike; counts = proof.counts_alike }
