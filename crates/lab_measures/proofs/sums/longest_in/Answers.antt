use Rattle.std.proofs.Common.{◌≡◌, ◌<◌, ◌≤◌, ◌+◌, ℕ, List, true, false, sym, refl, ap, ◌∙◌, subst, arith, take}
use Rattle.std.specs.Prelude.{Option, Some, ℤ, length, slice_index_or}
use Rattle.std.specs.Ordering.{int_cmp, is_gt, is_some_and}
use Rattle.std.specs.Option.{option_partial_cmp}
use Rattle.std.proofs.lemmas.List.{take_more, take_all}
use Rattle.lab_measures.specs.declared.row.Row.{Row}
use Rattle.lab_measures.proofs.Leads.{Leads, exceeds_if, within_if, leads_new, leads_same, leads_longest, leads_none}
use Rattle.lab_measures.proofs.sums.longest_in.Goals.{then-gt, else-gt}
use Rattle.lab_measures.proofs.sums.longest_in.Goals as goal

pub loop-row-preserved : goal.loop-row-preserved
loop-row-preserved c = elim c.if-gt.branch [
  | then-gt w ↦ let t = w.if-gt.true in let l = w.longest-is in let m = w.most-is in
      leads_new (take c.loop-row.row-index c.args.rows.now) _ _ c.loop-row.longest c.if-gt.longest c.loop-row.most c.if-gt.most
      (take_more c.args.rows.now c.loop-row.row-index _ c.loop-row-test.true) c.loop-row.invariant
      (exceeds_if (λ x y. Some (int_cmp x y)) (λ x y. refl) _ c.loop-row.most
      (subst (λ (o : Option ℤ). is_some_and is_gt (option_partial_cmp (λ x y. Some (int_cmp x y)) o c.loop-row.most) ≡ true)
      c.wait-wait.ensures (sym c.gt.ensures ∙ t)))
      l (m ∙ c.wait-wait.ensures)
  | else-gt w ↦ let t = w.if-gt.false in let l = w.longest-is in let m = w.most-is in
      leads_same (take c.loop-row.row-index c.args.rows.now) _ _ c.loop-row.longest c.if-gt.longest c.loop-row.most c.if-gt.most
      (take_more c.args.rows.now c.loop-row.row-index _ c.loop-row-test.true) c.loop-row.invariant
      (within_if (λ x y. Some (int_cmp x y)) (λ x y. refl) _ c.loop-row.most
      (subst (λ (o : Option ℤ). is_some_and is_gt (option_partial_cmp (λ x y. Some (int_cmp x y)) o c.loop-row.most) ≡ false)
      c.wait-wait.ensures (sym c.gt.ensures ∙ t)))
      l m
]

pub returns-clause-longest : goal.returns-clause-longest
returns-clause-longest c = leads_longest c.args.rows.now c.loop-row.longest c.loop-row.most
    (subst (λ (rows : List Row). Leads rows c.loop-row.longest c.loop-row.most)
    (take_all c.loop-row.row-index c.args.rows.now (omega arith)) c.loop-row.invariant)

pub returns-clause-none : goal.returns-clause-none
returns-clause-none c = leads_none c.args.rows.now c.loop-row.longest c.loop-row.most
    (subst (λ (rows : List Row). Leads rows c.loop-row.longest c.loop-row.most)
    (take_all c.loop-row.row-index c.args.rows.now (omega arith)) c.loop-row.invariant)
