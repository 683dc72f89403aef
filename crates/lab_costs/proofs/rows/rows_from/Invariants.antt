use Rattle.std.proofs.Common.{◌≡◌, map}
use Rattle.lab_costs.specs.Rows.{row_of, parts_below}
use Rattle.lab_costs.proofs.rows.rows_from.Given as goal

-- the rows are those of the parts before
abbrev pub invariant-loop-number : goal.invariant-loop-number
invariant-loop-number l = l.rows.items ≡ map (row_of l.fn.groups l.fn.keys l.fn.costs) (parts_below l.fn.keys l.number)
