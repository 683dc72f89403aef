use Rattle.std.proofs.Common.{◌≡◌, ◌+◌, map, length}
use Rattle.mx_lines.specs.Shapes.{word}
use Rattle.mx_faults.specs.Roles.{role}
use Rattle.mx_faults.specs.Showing.{first_shown}
use Rattle.mx_faults.specs.Walking.{kind_by}
use Rattle.mx_faults.proofs.shown.first_shown.Given as goal

abbrev pub invariant-loop-rest : goal.invariant-loop-rest
invariant-loop-rest l = record {
  same : first_shown (kind_by l.labels) l.fault l.place (map role l.left) (map word l.rest) ≡ first_shown (kind_by l.labels) l.fault 1 (map role l.roles)
      (map word l.words);
  few : l.place + length l.rest ≡ length l.words + 1;
}

abbrev pub decreases-loop-rest : goal.decreases-loop-rest
decreases-loop-rest l = length l.rest
