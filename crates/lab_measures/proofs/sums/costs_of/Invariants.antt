use Rattle.std.proofs.Common.{◌≡◌, ◌++◌, drop}
use Rattle.std.specs.List.{filter_map}
use Rattle.lab_measures.specs.Sums.{cost_in, costs_in}
use Rattle.lab_measures.proofs.sums.costs_of.Given as goal

-- the costs so far and those of the rows that are left are those of all
abbrev pub invariant-loop-row : goal.invariant-loop-row
invariant-loop-row l = l.costs.items ++ filter_map (cost_in l.sweep) (drop l.row-index l.sweep.rows.items) ≡ costs_in l.sweep
