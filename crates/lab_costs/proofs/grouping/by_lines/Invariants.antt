use Rattle.std.proofs.Common.{◌≡◌, ◌<◌, ◌+◌, ◌-◌, ◌^◌, ℕ, length, min}
use Rattle.lab_costs.specs.Rows.{group_of}
use Rattle.lab_costs.proofs.grouping.by_lines.Given as goal

-- a part for each line before, with its number
abbrev pub invariant-loop-span : goal.invariant-loop-span
invariant-loop-span l = record {
  line : l.line ≡ min l.span-index (2 ^ 32 - 1);
  count : length l.groups.items ≡ l.span-index + 1;
  numbers : (k : ℕ) → k < length l.groups.items → k < 2 ^ 32 → (group_of l.groups.items k).line ≡ k;
}
