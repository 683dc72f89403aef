use Rattle.std.proofs.Common.{◌≡◌, ◌<◌, ℕ, length}
use Rattle.std.specs.Prelude.{slice_index}
use Rattle.lab_profile.specs.declared.lines.LineCost.{LineCost}
use Rattle.lab_profile.specs.Lines.{saturated, cost_of, on_line, executed_of, executed_on, penalty_of, penalty_on}
use Rattle.lab_profile.proofs.EachColumn.{IsColumn}
use Rattle.lab_profile.proofs.by_line.costs_by_line.Given as goal

-- the sums are those of the statements before
abbrev pub invariant-loop-at : goal.invariant-loop-at
invariant-loop-at l = record {
  each : (k : ℕ) → k < length l.fn.lines → slice_index l.fn.lines k < length l.sums.items;
  columns : (column : LineCost → ℕ) → IsColumn column → (n : ℕ) → n < length l.sums.items
      → column (cost_of l.sums.items n) ≡ saturated (on_line column n l.fn.lines l.fn.costs l.at);
  executed : (n : ℕ) → n < length l.sums.items → executed_of l.sums.items n ≡ saturated (executed_on n l.fn.lines l.fn.costs l.at);
  penalty : (n : ℕ) → n < length l.sums.items → penalty_of l.sums.items n ≡ saturated (penalty_on n l.fn.lines l.fn.costs l.at);
}
