use Rattle.std.proofs.Common.{◌≡◌, map, length}
use Rattle.mx_asm.specs.Positions.{statement_words}
use Rattle.mx_lines.specs.Shapes.{word}
use Rattle.mx_asm.proofs.front.statement_words.Given as goal

abbrev pub invariant-loop-rest : goal.invariant-loop-rest
invariant-loop-rest l = statement_words (map word l.rest) ≡ statement_words (map word l.words)

abbrev pub decreases-loop-rest : goal.decreases-loop-rest
decreases-loop-rest l = length l.rest
