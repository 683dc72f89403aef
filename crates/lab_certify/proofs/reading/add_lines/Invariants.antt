use Rattle.std.proofs.Common.{◌≡◌, ◌+◌, ◌≤◌, length}
use Rattle.mx_plans.specs.Files.{lines_in}
use Rattle.lab_certify.specs.Texts.{claims_after, claims_of}
use Rattle.lab_certify.proofs.reading.add_lines.Given as goal

abbrev pub invariant-lines : goal.invariant-lines
invariant-lines l =
    (claims_after l.number (claims_of l.certificate) (lines_in l.left) ≡ claims_after 3 (claims_of l.initial.certificate) (lines_in l.fn.text))
    × (l.number + length l.left ≤ 3 + length l.fn.text)

abbrev pub decreases-lines : goal.decreases-lines
decreases-lines l = length l.left
