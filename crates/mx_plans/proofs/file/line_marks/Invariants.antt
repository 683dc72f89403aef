use Rattle.std.proofs.Common.{◌≡◌, length}
use Rattle.mx_plans.specs.Files.{marks_after, pieces_in, line_marks}
use Rattle.mx_plans.proofs.file.line_marks.Given as goal

abbrev pub invariant-pieces : goal.invariant-pieces
invariant-pieces l = marks_after l.marks.items (pieces_in l.left) ≡ line_marks l.fn.line

abbrev pub decreases-pieces : goal.decreases-pieces
decreases-pieces l = length l.left
