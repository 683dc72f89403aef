use Rattle.cc_plan.proofs.Placing.{Placed}
use Rattle.cc_plan.proofs.places.find_places.Given as goal

-- the items that were passed have their places
abbrev pub invariant-loop-number : goal.invariant-loop-number
invariant-loop-number l = Placed l.program l.function l.items l.plans l.knowledge l.number
