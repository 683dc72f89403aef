use Rattle.std.proofs.Common.{◌≡◌, ◌++◌, drop}
use Rattle.lab_measures.specs.Sums.{waits_in}
use Rattle.lab_measures.proofs.sums.waits_of.Given as goal

-- the waits so far and those of the rows that are left are those of all
abbrev pub invariant-loop-row : goal.invariant-loop-row
invariant-loop-row l = l.waits.items ++ waits_in (drop l.row-index l.rows) ≡ waits_in l.rows
