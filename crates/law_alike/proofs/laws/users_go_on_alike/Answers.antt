use Rattle.law_alike.proofs.Users as proof
use Rattle.law_alike.proofs.laws.users_go_on_alike.Goals as goal

pub returns : goal.returns
returns c = record { states = proof.users_states; bytes = proof.users_bytes }
