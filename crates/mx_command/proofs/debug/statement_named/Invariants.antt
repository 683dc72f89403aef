use Rattle.mx_command.proofs.Labels.{from_here}
use Rattle.mx_command.proofs.debug.statement_named.Given as goal

abbrev pub invariant-loop-i : goal.invariant-loop-i
invariant-loop-i l = from_here l.labels.entries l.wanted l.i
