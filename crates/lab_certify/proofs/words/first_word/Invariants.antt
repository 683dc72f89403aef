use Rattle.std.proofs.Common.{◌≡◌, length}
use Rattle.lab_certify.specs.Texts.{words_in}
use Rattle.lab_certify.proofs.words.first_word.Given as goal

abbrev pub invariant-pieces : goal.invariant-pieces
invariant-pieces l = words_in l.left ≡ words_in l.fn.line

abbrev pub decreases-pieces : goal.decreases-pieces
decreases-pieces l = length l.left
