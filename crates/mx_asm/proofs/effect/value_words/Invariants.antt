use Rattle.std.proofs.Common.{◌≡◌, map, length}
use Rattle.mx_asm.specs.Directives.{value_words}
use Rattle.mx_lines.specs.Shapes.{word}
use Rattle.mx_asm.proofs.Fronts.{prepend}
use Rattle.mx_asm.proofs.effect.value_words.Given as goal

-- the values so far, and those that the rest gives, are those of all words
abbrev pub invariant-values : goal.invariant-values
invariant-values l = prepend (map word l.values.items) (value_words (map word l.rest)) ≡ value_words (map word l.words)

abbrev pub decreases-values : goal.decreases-values
decreases-values l = length l.rest
