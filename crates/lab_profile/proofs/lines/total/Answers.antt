use Rattle.std.proofs.Common.{◌≡◌, ◌∙◌, ℕ, length, ap, arith, rules}
use Rattle.lab_profile.specs.Charges.{sum_below}
use Rattle.lab_profile.specs.Lines.{saturated, cost_of}
use Rattle.lab_profile.proofs.EachColumn.{total_more, all_columns}
use Rattle.lab_profile.proofs.lines.total.Goals as goal

pub loop-cost-preserved : goal.loop-cost-preserved
loop-cost-preserved c = record {
  columns = λ column column_is.
      total_more column column_is c.args.costs.now c.loop-cost.cost-index _ c.loop-cost.sum c.plus-sum.result c.loop-cost-test.true c.plus-sum.ensures
      (c.loop-cost.invariant.columns column column_is);
  executed = search rules;
  penalty = search rules;
}

pub returns-clause-columns : goal.returns-clause-columns
returns-clause-columns c =
    all_columns _ _ (λ column column_is.
    c.loop-cost.invariant.columns column column_is
    ∙ ap (λ (n : ℕ). saturated (sum_below (λ i. column (cost_of c.args.costs.now i)) n))
    (let n : c.loop-cost.cost-index ≡ length c.args.costs.now = omega arith in n))
