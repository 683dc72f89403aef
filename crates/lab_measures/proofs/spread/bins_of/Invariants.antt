use Rattle.std.proofs.Common.{◌≤◌}
use Rattle.std.specs.List.Sorted.{IsSorted}
use Rattle.std.specs.Ordering.{int_cmp}
use Rattle.lab_measures.proofs.Bins.{AreBinned}
use Rattle.lab_measures.proofs.spread.bins_of.Given as goal

-- the bins of the numbers so far
abbrev pub invariant-loop-at : goal.invariant-loop-at
invariant-loop-at l = record {
  few : l.runs ≤ l.at;
  binned : IsSorted int_cmp l.sorted → AreBinned l.sorted l.at l.bins.items l.runs;
}
