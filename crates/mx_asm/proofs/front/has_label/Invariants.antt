use Rattle.std.proofs.Common.{◌≡◌, map, length}
use Rattle.mx_asm.specs.Positions.{has_label}
use Rattle.mx_lines.specs.Shapes.{word}
use Rattle.mx_asm.proofs.front.has_label.Given as goal

abbrev pub invariant-loop-rest : goal.invariant-loop-rest
invariant-loop-rest l = has_label (map word l.rest) ≡ has_label (map word l.words)

abbrev pub decreases-loop-rest : goal.decreases-loop-rest
decreases-loop-rest l = length l.rest
