use Rattle.std.proofs.Common.{◌≡◌, ◌<◌, ℕ, length, slice_index}
use Rattle.lab_profile.specs.declared.lines.LineCost.{LineCost}
use Rattle.lab_profile.specs.Lines.{executed_of, penalty_of}
use Rattle.lab_profile.proofs.Gathered.{Gathers}
use Rattle.lab_profile.proofs.EachColumn.{IsColumn, Charges}
use Rattle.lab_profile.proofs.lines.line_costs.Given as goal

abbrev pub invariant-loop-place : goal.invariant-loop-place
invariant-loop-place l = record {
  size : length l.costs.items ≡ l.fn.statements;
  columns : (column : LineCost → ℕ) → IsColumn column → (i : ℕ) → i < l.fn.statements
      → Charges column l.tally i l.origin l.place l.owner l.costs.items;
  executed : (i : ℕ) → i < l.fn.statements → Gathers executed_of (slice_index l.tally.executed.items) i l.origin l.place l.costs.items;
  penalty : (i : ℕ) → i < l.fn.statements → Gathers penalty_of (slice_index l.tally.penalty.items) i l.origin l.place l.costs.items;
}
