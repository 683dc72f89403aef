use Rattle.lab_terms.specs.Flow.{IsWalk}
use Rattle.lab_terms.proofs.reach.reached.Given as goal

-- so many statements were followed
abbrev pub invariant-loop-at : goal.invariant-loop-at
invariant-loop-at l = IsWalk l.source l.walk.seen.items l.walk.order.items l.at
