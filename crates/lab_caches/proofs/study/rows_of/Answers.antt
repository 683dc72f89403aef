use Rattle.std.proofs.Common.{◌≡◌, ◌≤◌, ◌<◌, ◌+◌, ◌^◌, ◌∷◌, ◌++◌, [], ℕ, Some, slice_get, slice_index_or, take, map, arith, ap, sym, ◌∙◌, subst, ⊎_elim}
use Rattle.std.proofs.lemmas.Bool.{cases_lt}
use Rattle.std.proofs.lemmas.Option.{slice_get_within}
use Rattle.lab_cache.specs.declared.all.Counted.{Counted}
use Rattle.lab_caches.specs.Rows.{row_for}
use Rattle.lab_caches.proofs.Rows.{at_index, map_more}
use Rattle.lab_caches.proofs.study.rows_of.Goals as goal

pub loop-counted-preserved : goal.loop-counted-preserved
loop-counted-preserved c =
    let i = c.loop-counted.counted-index in
    record {
      rows = c.in_ok-push.ensures.items
          ∙ (λ k. c.loop-counted.invariant.rows k ++ c.row_of.ensures.row k ∷ [])
          ∙ map_more (row_for c.args.fetches) c.args.all.now i _ (let lt = c.loop-counted-test.true in omega (arith, lt));
      small = λ k x lt at. ⊎_elim
          (λ (below : k < i). c.loop-counted.invariant.small k x below at)
          (λ (from : i ≤ k).
          let same : k ≡ i = omega (arith, lt, from) in
          subst (λ (y : Counted). y.geometry.penalty < 2 ^ 32) (at_index c.args.all.now i x _ (ap (slice_get c.args.all.now) (sym same) ∙ at))
          c.row_of.ensures.small)
          (cases_lt k i);
    }

pub returns-clause-small : goal.returns-clause-small
returns-clause-small c = λ k x at.
    let below = slice_get_within c.args.all.now k x at in
    let end = c.loop-counted-test.false in
    c.loop-counted.invariant.small k x (omega (arith, below, end)) at
