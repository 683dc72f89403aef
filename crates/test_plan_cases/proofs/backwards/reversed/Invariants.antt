use Rattle.std.proofs.Common.{◌≡◌, length}
use Rattle.test_plan_cases.proofs.backwards.reversed.Given as goal

-- an item for each number so far
abbrev pub invariant-loop-k : goal.invariant-loop-k
invariant-loop-k l = length l.items.items ≡ l.k
