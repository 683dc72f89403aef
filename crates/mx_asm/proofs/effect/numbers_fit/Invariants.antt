use Rattle.std.proofs.Common.{◌≡◌, map, drop}
use Rattle.mx_asm.specs.Directives.{numbers_fit}
use Rattle.mx_lines.specs.Shapes.{word}
use Rattle.mx_asm.proofs.effect.numbers_fit.Given as goal

-- the numbers so far fit
abbrev pub invariant-loop-word : goal.invariant-loop-word
invariant-loop-word l = numbers_fit (map word (drop l.word-index l.values)) ≡ numbers_fit (map word l.values)
