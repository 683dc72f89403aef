use Rattle.std.proofs.Common.{length}
use Rattle.mx_board.proofs.Reading.{Reading}
use Rattle.mx_board.proofs.requests.Requests.parse.Given as goal

abbrev pub invariant-lines : goal.invariant-lines
invariant-lines l = Reading l.fn.bytes l.cycles.items l.line l.text

abbrev pub decreases-lines : goal.decreases-lines
decreases-lines l = length l.text
