use Rattle.std.proofs.Common.{◌≡◌, length}
use Rattle.mx_plans.specs.Files.{said_of, said_after, pieces_in, line_read}
use Rattle.mx_plans.proofs.file.line_read.Given as goal

abbrev pub invariant-pieces : goal.invariant-pieces
invariant-pieces l = said_after (said_of l.said) (pieces_in l.left) ≡ line_read l.fn.line

abbrev pub decreases-pieces : goal.decreases-pieces
decreases-pieces l = length l.left
