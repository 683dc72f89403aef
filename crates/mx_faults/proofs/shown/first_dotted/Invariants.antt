use Rattle.std.proofs.Common.{◌≡◌, ◌≤◌, ◌+◌, map, length}
use Rattle.mx_lines.specs.Shapes.{word}
use Rattle.mx_asm.specs.Positions.{front_names}
use Rattle.mx_faults.specs.Showing.{first_dotted}
use Rattle.mx_faults.proofs.shown.first_dotted.Given as goal

abbrev pub invariant-loop-rest : goal.invariant-loop-rest
invariant-loop-rest l = record {
  same : first_dotted l.place (front_names (map word l.rest)) ≡ first_dotted 0 (front_names (map word l.words));
  few : l.place + length l.rest ≤ length l.words;
}

abbrev pub decreases-loop-rest : goal.decreases-loop-rest
decreases-loop-rest l = length l.rest
