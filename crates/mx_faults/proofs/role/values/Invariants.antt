use Rattle.std.proofs.Common.{◌≡◌, ◌++◌, map, length}
use Rattle.mx_lines.specs.Shapes.{word}
use Rattle.mx_faults.specs.Forms.{values}
use Rattle.mx_faults.specs.Roles.{role}
use Rattle.mx_faults.proofs.role.values.Given as goal

-- the places so far and those of the rest are those of all words
abbrev pub invariant-loop-rest : goal.invariant-loop-rest
invariant-loop-rest l = map role l.roles.items ++ values (map word l.rest) ≡ values (map word l.words)

abbrev pub decreases-loop-rest : goal.decreases-loop-rest
decreases-loop-rest l = length l.rest
