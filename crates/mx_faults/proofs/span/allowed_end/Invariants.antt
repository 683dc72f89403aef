use Rattle.std.proofs.Common.{length, ◌-◌}
use Rattle.mx_lex.specs.Bytes.{is_allowed}
use Rattle.mx_lex.proofs.Fronts.{Comes}
use Rattle.mx_faults.proofs.span.allowed_end.Given as goal

abbrev pub invariant-loop-end : goal.invariant-loop-end
invariant-loop-end l = Comes is_allowed l.line 0 l.end

abbrev pub decreases-loop-end : goal.decreases-loop-end
decreases-loop-end l = length l.line - l.end
