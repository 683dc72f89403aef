use Rattle.std.proofs.Common.{◌≡◌, ℕ}
use Rattle.lab_profile.specs.declared.lines.LineCost.{LineCost}
use Rattle.lab_profile.specs.Charges.{sum_below}
use Rattle.lab_profile.specs.Lines.{saturated, cost_of, executed_of, penalty_of}
use Rattle.lab_profile.proofs.EachColumn.{IsColumn}
use Rattle.lab_profile.proofs.lines.total.Given as goal

abbrev pub invariant-loop-cost : goal.invariant-loop-cost
invariant-loop-cost l = record {
  columns : (column : LineCost → ℕ) → IsColumn column → column l.sum ≡ saturated (sum_below (λ i. column (cost_of l.fn.costs i)) l.cost-index);
  executed : l.sum.executed ≡ saturated (sum_below (executed_of l.fn.costs) l.cost-index);
  penalty : l.sum.penalty ≡ saturated (sum_below (penalty_of l.fn.costs) l.cost-index);
}
