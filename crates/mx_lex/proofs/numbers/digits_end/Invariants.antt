use Rattle.std.proofs.Common.{length, ◌-◌}
use Rattle.std.specs.Char.{is_digit}
use Rattle.mx_lex.proofs.Fronts.{Comes}
use Rattle.mx_lex.proofs.numbers.digits_end.Given as goal

abbrev pub invariant-loop-end : goal.invariant-loop-end
invariant-loop-end l = Comes (λ b. is_digit b l.base) l.line l.at l.end

abbrev pub decreases-loop-end : goal.decreases-loop-end
decreases-loop-end l = length l.line - l.end
