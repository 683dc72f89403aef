use Rattle.std.proofs.Common.{◌≡◌, ◌<◌, ◌^◌, ℕ, Some, List, map, length, slice_get, sym, ap, ◌∙◌, subst}
use Rattle.lab_cache.specs.declared.all.Counted.{Counted}
use Rattle.lab_cache.specs.All.{counted}
use Rattle.lab_caches.specs.Rows.{row_for}
use Rattle.lab_caches.proofs.Rows.{rows_are}
use Rattle.lab_caches.proofs.study.ended_rows.Goals as goal

pub returns : goal.returns
returns c = λ gs past many few held.
    let are = c.as_slice.ensures.value ∙ c.in_ok-counted.ensures gs past held in
    c.in_ok-rows.ensures.rows
    ∙ (λ k. map (row_for (sym many k)) (are k))
    ∙ rows_are past (subst (λ n. n < 2 ^ 32) (sym many) few) gs
    (subst (λ (xs : List Counted). (k : ℕ) (x : Counted) → slice_get xs k ≡ Some x → x.geometry.penalty < 2 ^ 32) are c.in_ok-rows.ensures.small)
