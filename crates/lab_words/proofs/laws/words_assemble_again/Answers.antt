use Rattle.lab_words.proofs.Again.{assembles_again}
use Rattle.lab_words.proofs.laws.words_assemble_again.Goals as goal

pub returns : goal.returns
returns c = assembles_again
