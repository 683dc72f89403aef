use Rattle.mx_best.proofs.Searching.{IsTrying}
use Rattle.mx_best.proofs.search.+fill.Given as goal

abbrev pub decreases-fill : goal.decreases-fill
decreases-fill l = l.from

abbrev pub invariant-loop-k : goal.invariant-loop-k
invariant-loop-k l = IsTrying l.block l.initial.plan l.at l.k l.plan
