use Rattle.std.proofs.Common.{length, ◌-◌}
use Rattle.mx_lex.specs.Bytes.{is_in}
use Rattle.mx_lex.proofs.Fronts.{Comes}
use Rattle.mx_lex.proofs.bytes.run_end.Given as goal

abbrev pub invariant-loop-end : goal.invariant-loop-end
invariant-loop-end l = Comes (is_in l.run) l.line l.at l.end

abbrev pub decreases-loop-end : goal.decreases-loop-end
decreases-loop-end l = length l.line - l.end
