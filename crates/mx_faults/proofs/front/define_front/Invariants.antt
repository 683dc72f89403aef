use Rattle.std.proofs.Common.{◌≡◌, ◌≤◌, ◌+◌, map, length}
use Rattle.std.specs.Option.{option_or}
use Rattle.mx_asm.specs.Positions.{define_front}
use Rattle.mx_lines.specs.Shapes.{word}
use Rattle.mx_faults.specs.Walking.{repeat_place}
use Rattle.mx_faults.proofs.front.define_front.Given as goal

abbrev pub invariant-loop-rest : goal.invariant-loop-rest
invariant-loop-rest l = record {
  defined : define_front l.labels l.label (map word l.rest) ≡ define_front l.fn.labels l.label (map word l.words);
  repeated : option_or l.repeated (repeat_place l.labels l.label l.place (map word l.rest)) ≡ repeat_place l.fn.labels l.label 0 (map word l.words);
  few : l.place + length l.rest ≤ length l.words;
}

abbrev pub decreases-loop-rest : goal.decreases-loop-rest
decreases-loop-rest l = length l.rest
