-- What a visit makes of a cache.
use Rattle.std.proofs.Common.{◌≡◌, ◌≢◌, ℕ, ◌+◌, true, false, eqb, List, [], ◌++◌, length, set, Some, refl, sym, ◌∙◌, ap, arith}
use Rattle.std.specs.List.{slice_get}
use Rattle.std.proofs.lemmas.Bool.Decides.{nat_tests}
use Rattle.std.proofs.lemmas.List.{length-set}
use Rattle.lab_terms.specs.declared.geometry.Geometry.{Geometry}
use Rattle.lab_terms.specs.Geometries.{saturated}
use Rattle.lab_cache.specs.declared.set.Set.{Set}
use Rattle.lab_cache.specs.declared.cache.Cache.{Cache}
use Rattle.lab_cache.specs.Misses.{IsCache, set_of, misses_in}
use Rattle.lab_cache.specs.Visits.{IsVisit}
use Rattle.lab_cache.specs.Sets.{SetHolds, CacheHolds}
use Rattle.lab_cache.proofs.SetSteps.{IsEmpty, set_begins, set_other, by_first, at_set_same, at_set_other}

pub cache_begins : (cache : Cache) → length cache.sets.items ≡ cache.geometry.sets
    → ((s : ℕ) (set : Set) → slice_get cache.sets.items s ≡ Some set → IsEmpty cache.geometry.ways set) → cache.misses ≡ 0 → CacheHolds cache []
unfolding misses_in
cache_begins cache sets each misses = record {
  sets = sets;
  each = λ s one at. set_begins cache.geometry one s (each s one at);
  misses = misses;
}

-- a sum that is kept as far as 64 bits hold it
saturated-more : (n m : ℕ) → saturated (saturated n + m) ≡ saturated (n + m)
saturated-more n m = omega arith

other_set : (g : Geometry) (one : Set) (past : List ℕ) (s l groups : ℕ) (v : List ℕ) → IsCache g → IsVisit g l groups v → s ≢ set_of g l
    → SetHolds g one past s → SetHolds g one (v ++ past) s
other_set g one past s l groups v is visit ne h =
    by_first (λ w. IsVisit g l groups w → SetHolds g one (w ++ past) s) v visit.some
    (λ x w visit'. set_other g one past s l x w is visit'.alone (λ e. ne (sym e)) h) visit

pub cache_visited : (cache new : Cache) (past v : List ℕ) (l groups missed : ℕ) (after : Set) → IsCache cache.geometry → IsVisit cache.geometry l groups v
    → CacheHolds cache past → new.geometry ≡ cache.geometry → new.sets.items ≡ set cache.sets.items (set_of cache.geometry l) after
    → SetHolds cache.geometry after (v ++ past) (set_of cache.geometry l) → misses_in cache.geometry (v ++ past) ≡ misses_in cache.geometry past + missed
    → new.misses ≡ saturated (cache.misses + missed) → CacheHolds new (v ++ past)
cache_visited cache new past v l groups missed after is visit h same sets taken count misses = record {
  sets = ap (λ xs. length xs) sets ∙ length-set cache.sets.items (set_of cache.geometry l) after ∙ h.sets ∙ ap (λ g. g.sets) (sym same);
  each = λ s one at. rw same (elim (eqb s (set_of cache.geometry l)) as (λ t. eqb s (set_of cache.geometry l) ≡ t → SetHolds cache.geometry one (v ++ past) s) [
    | true ↦ λ e.
        let place : s ≡ set_of cache.geometry l = grind (arith, nat_tests) in
        let is_after : one ≡ after = at_set_same cache.sets.items (set_of cache.geometry l) after one
        (ap (λ xs. slice_get xs (set_of cache.geometry l)) (sym sets) ∙ ap (λ n. slice_get new.sets.items n) (sym place) ∙ at) in
        rw (place, is_after) taken
    | false ↦ λ e.
        let place : s ≢ set_of cache.geometry l = grind (arith, nat_tests) in
        other_set cache.geometry one past s l groups v is visit place (h.each s one
        (sym (at_set_other cache.sets.items (set_of cache.geometry l) s after place) ∙ ap (λ xs. slice_get xs s) (sym sets) ∙ at))
  ] refl);
  misses = misses ∙ ap (λ n. saturated (n + missed)) h.misses ∙ saturated-more (misses_in cache.geometry past) missed
      ∙ ap saturated (sym count) ∙ ap (λ g. saturated (misses_in g (v ++ past))) (sym same);
}
