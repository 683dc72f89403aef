use Rattle.std.proofs.Common.{◌<◌, ◌≤◌, length}
use Rattle.lab_costs.specs.Rows.{AreBelow}
use Rattle.lab_costs.proofs.grouping.by_starts.Given as goal

-- there are no more keys than statements, and each is the number of a part
abbrev pub invariant-loop-statement : goal.invariant-loop-statement
invariant-loop-statement l = record {
  size : length l.grouping.keys.items ≤ length l.fn.lines;
  some : 0 < length l.grouping.groups.items;
  below : AreBelow l.grouping.keys.items (length l.grouping.groups.items);
}
