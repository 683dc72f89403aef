use Rattle.std.proofs.Common.{◌≡◌, ◌<◌, ◌≤◌, length, All}
use Rattle.lab_costs.specs.Rows.{AreBelow}
use Rattle.lab_costs.proofs.grouping.keys_by.Given as goal

-- a key for each line before, and each is the number of a part
abbrev pub invariant-loop-line : goal.invariant-loop-line
invariant-loop-line l = record {
  size : length l.keys.items ≡ l.line-index;
  grows : length l.fn.groups.items ≤ length l.groups.items;
  below : 0 < length l.fn.groups.items → AreBelow l.keys.items (length l.groups.items);
  numbers : All (λ e. e.1 < length l.groups.items) l.numbers.entries;
}
