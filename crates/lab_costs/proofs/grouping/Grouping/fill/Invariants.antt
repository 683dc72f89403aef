use Rattle.std.proofs.Common.{◌≡◌, ◌<◌, ◌≤◌, length, max}
use Rattle.lab_costs.specs.Rows.{AreBelow}
use Rattle.lab_costs.proofs.grouping.Grouping.fill.Given as goal

-- a key for each statement before, and each is the number of a part
abbrev pub invariant-loop : goal.invariant-loop
invariant-loop l = record {
  size : length l.self.keys.items ≡ l.counter;
  more : length l.fn.self.keys.items ≤ l.counter;
  few : l.counter ≤ max (length l.fn.self.keys.items) l.fn.statements;
  groups : l.self.groups.items ≡ l.fn.self.groups.items;
  below : 0 < length l.fn.self.groups.items → AreBelow l.fn.self.keys.items (length l.fn.self.groups.items)
      → AreBelow l.self.keys.items (length l.fn.self.groups.items);
}
