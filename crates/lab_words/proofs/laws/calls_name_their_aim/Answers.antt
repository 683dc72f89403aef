use Rattle.lab_words.proofs.Again.{aimed_call}
use Rattle.lab_words.proofs.laws.calls_name_their_aim.Goals as goal

pub returns : goal.returns
returns c = aimed_call
