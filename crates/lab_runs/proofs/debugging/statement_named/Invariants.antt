use Rattle.lab_runs.proofs.Labels.{from_here}
use Rattle.lab_runs.proofs.debugging.statement_named.Given as goal

abbrev pub invariant-loop-i : goal.invariant-loop-i
invariant-loop-i l = from_here l.labels.entries l.wanted l.i
