use Rattle.std.proofs.Common.{◌≡◌, ◌||◌, map, length}
use Rattle.mx_asm.specs.Positions.{define_front, is_repeated}
use Rattle.mx_lines.specs.Shapes.{word}
use Rattle.mx_asm.proofs.front.define_front.Given as goal

abbrev pub invariant-loop-rest : goal.invariant-loop-rest
invariant-loop-rest l = record {
  defined : define_front l.labels l.label (map word l.rest) ≡ define_front l.fn.labels l.label (map word l.words);
  repeated : (l.repeated || is_repeated l.labels l.label (map word l.rest)) ≡ is_repeated l.fn.labels l.label (map word l.words);
}

abbrev pub decreases-loop-rest : goal.decreases-loop-rest
decreases-loop-rest l = length l.rest
