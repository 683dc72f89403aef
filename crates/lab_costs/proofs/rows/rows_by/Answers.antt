use Rattle.std.proofs.Common.{rules, ◌≡◌, ◌∙◌, sym, subst, List, ℕ}
use Rattle.std.specs.List.Sorted.{IsStableByKey}
use Rattle.std.specs.Ordering.{nat_cmp}
use Rattle.std.proofs.lemmas.List.Sorted.{IsNonDecreasingBy-from_sort_by_key}
use Rattle.std.proofs.lemmas.Fn.{always_returns_same}
use Rattle.lab_costs.specs.declared.rows.Row.{Row}
use Rattle.lab_costs.specs.Rows.{from_greatest, rows_of, InOrderOf}
use Rattle.lab_costs.proofs.rows.rows_by.Goals as goal

pub returns-clause-rows : goal.returns-clause-rows
returns-clause-rows c h =
    let key = from_greatest c.args.column in
    let parts = c.in_ok-grouping.grouping in
    let are = c.in_ok-rows.ensures (c.in_ok-grouping.ensures.a_key_each ∙ sym h) in (
      parts.groups.items,
      parts.keys.items,
      c.in_ok-grouping.ensures,
      record {
        sorted = IsNonDecreasingBy-from_sort_by_key key _ c.in_ok-sort_by_key.ensures.sorted (λ a r q k. search rules);
        stable =
            subst (λ (rows : List Row). IsStableByKey key nat_cmp rows c.sort_by_key.new.self.items) are
            (c.sort_by_key.ensures.stable key (always_returns_same _ (λ a r. r ≡ key a.0.now) _ (λ a r q k. search rules)));
      },
    )

pub returns-clause-by_line : goal.returns-clause-by_line
returns-clause-by_line c h line =
    let all = returns-clause-rows c h in (
      all.0,
      all.2.line_groups line,
      subst (λ (keys : List ℕ). InOrderOf c.args.column (rows_of all.0 keys c.args.costs.now) c.sort_by_key.new.self.items) (all.2.by_line line) all.3,
    )
