use Rattle.std.proofs.Common.{◌≡◌, ◌++◌, drop, map}
use Rattle.lab_runs.proofs.blocks_ran.executed_by.Given as goal

-- the numbers so far and those of the costs that are left are those of all
abbrev pub invariant-loop-cost : goal.invariant-loop-cost
invariant-loop-cost l = l.counts.items ++ map (λ cost. cost.executed) (drop l.cost-index l.costs) ≡ map (λ cost. cost.executed) l.costs
