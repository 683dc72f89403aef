-- Groups of caches, one after the other.
use Rattle.std.proofs.Common.{◌≡◌, ℕ, zero, suc, ◌+◌, ◌<◌, List, [], ◌∷◌, ◌++◌, length, take, map, Some, refl, sym, ◌∙◌, ap, append_assoc, arith}
use Rattle.std.specs.List.{slice_get, flat_map}
use Rattle.std.proofs.lemmas.List.{map-append}
use Rattle.lab_terms.specs.declared.geometry.Geometry.{Geometry}
use Rattle.lab_terms.specs.Geometries.{saturated}
use Rattle.lab_cache.specs.declared.quick.QuickCache.{QuickCache}
use Rattle.lab_cache.specs.declared.alike.Caches.{Caches}
use Rattle.lab_cache.specs.Misses.{IsCache, misses_in}
use Rattle.lab_cache.specs.Alike.{AreAlike, AreHeld, CachesHold}
use Rattle.lab_cache.specs.All.{AreCaches, counted, AllHold, AllEnded, noted, noted_in, Fetches, Ends, Each}

pub append_nil : {X : Type 0} (xs : List X) → xs ++ [] ≡ xs
append_nil [] = refl
append_nil (x ∷ xs) = ap (λ ys. x ∷ ys) (append_nil xs)

pub nothing_left : {X : Type 0} (xs : List X) → length xs ≡ 0 → xs ≡ []
nothing_left [] e = refl
nothing_left (x ∷ xs) e = absurd (omega arith)

-- one more group
pub one_more_group : (all : List Caches) (gs more : List Geometry) (c : Caches) (past : List ℕ) → AllHold all gs past → CachesHold c more past
    → AllHold (all ++ c ∷ []) (gs ++ more) past
one_more_group [] gs more c past none h = (more, [], ap (λ xs. xs ++ more) none ∙ sym (append_nil more), h, refl)
one_more_group (x ∷ all) gs more c past (front, rest, e, held, others) h =
    (front, rest ++ more, ap (λ xs. xs ++ more) e ∙ append_assoc front rest more, held, one_more_group all rest more c past others h)

behind : {X : Type 0} (xs ys : List X) (k : ℕ) → slice_get (xs ++ ys) (length xs + k) ≡ slice_get ys k
behind [] ys k = ap (λ n. slice_get ys n) (omega arith)
behind (x ∷ xs) ys k = let e : length (x ∷ xs) + k ≡ suc (length xs + k) = omega arith in rw e (behind xs ys k)

in_front : {X : Type 0} (n : ℕ) (xs : List X) (k : ℕ) (x : X) → slice_get (take n xs) k ≡ Some x → (k < n) × (slice_get xs k ≡ Some x)
in_front zero xs k x h = absurd (cc)
in_front (suc n) [] k x h = absurd (cc)
in_front (suc n) (y ∷ xs) zero x h = (omega arith, h)
in_front (suc n) (y ∷ xs) (suc k) x h = let rest = in_front n xs k x h in (let below : k < n = rest.0 in omega (arith, below), rest.1)

-- the first geometries that have the lines of the first of all
pub alike_front : (gs front rest others : List Geometry) (first : Geometry) (count : ℕ) → AreCaches gs → gs ≡ front ++ rest → rest ≡ first ∷ others
    → ((k : ℕ) (g : Geometry) → k < count → slice_get others k ≡ Some g → g.line ≡ first.line)
    → ((k : ℕ) (g : Geometry) → k < count → slice_get others k ≡ Some g → g.brings ≡ first.brings) → AreAlike first.line first.brings (take (count + 1) rest)
alike_front gs front rest others first count are whole split lines groups = record {
  some = is_first.line;
  short = is_first.short;
  brought = is_first.brings;
  caches = λ k g at. is k g (in_front (count + 1) rest k g at).1;
  lines = λ k g at. of_first (λ h. h.line) lines k g (in_front (count + 1) rest k g at).0
      (ap (λ xs. slice_get xs k) (sym split) ∙ (in_front (count + 1) rest k g at).1);
  groups = λ k g at. of_first (λ h. h.brings) groups k g (in_front (count + 1) rest k g at).0
      (ap (λ xs. slice_get xs k) (sym split) ∙ (in_front (count + 1) rest k g at).1);
}
  where
    is : (k : ℕ) (g : Geometry) → slice_get rest k ≡ Some g → IsCache g
    is k g at = are (length front + k) g (ap (λ xs. slice_get xs (length front + k)) whole ∙ behind front rest k ∙ at)

    is_first : IsCache first
    is_first = is 0 first (ap (λ xs. slice_get xs 0) split)

    of_first : (f : Geometry → ℕ) → ((k : ℕ) (g : Geometry) → k < count → slice_get others k ≡ Some g → f g ≡ f first)
        → (k : ℕ) (g : Geometry) → k < count + 1 → slice_get (first ∷ others) k ≡ Some g → f g ≡ f first
    of_first f h zero g below at = let same : first ≡ g = cc in ap f (sym same)
    of_first f h (suc k) g below at = h k g (omega arith) at

-- a step of each group is a step of all
later : (R : Caches → Caches → Type 0) (x y : Caches) (xs ys : List Caches) → Each R (x ∷ xs) (y ∷ ys) → Each R xs ys
later R x y xs ys h = record {
  number = let same : length (y ∷ ys) ≡ length (x ∷ xs) = h.number in omega arith;
  each = λ k one other at at'. h.each (suc k) one other at at';
}

no_more : (n : ℕ) → suc n ≡ 0 → ⊥
no_more n e = omega arith

pub all_fetch : (old new : List Caches) (gs : List Geometry) (past : List ℕ) (a : ℕ) → Each (Fetches a) old new → AllHold old gs past
    → AllHold new gs (a ∷ past)
all_fetch [] [] gs past a h all = all
all_fetch [] (y ∷ ys) gs past a h all = absurd (no_more (length ys) h.number)
all_fetch (x ∷ xs) [] gs past a h all = absurd (no_more (length xs) (sym h.number))
all_fetch (x ∷ xs) (y ∷ ys) gs past a h (front, rest, e, held, others) =
    (front, rest, e, h.each 0 x y refl refl front past held, all_fetch xs ys rest past a (later (Fetches a) x y xs ys h) others)

pub all_end : (old new : List Caches) (gs : List Geometry) (past : List ℕ) → Each Ends old new → AllHold old gs past → AllEnded new gs past
all_end [] [] gs past h all = all
all_end [] (y ∷ ys) gs past h all = absurd (no_more (length ys) h.number)
all_end (x ∷ xs) [] gs past h all = absurd (no_more (length xs) (sym h.number))
all_end (x ∷ xs) (y ∷ ys) gs past h (front, rest, e, held, others) =
    (front, rest, e, h.each 0 x y refl refl front past held, all_end xs ys rest past (later Ends x y xs ys h) others)

-- what the caches of one group counted
later_held : (g : Geometry) (gs : List Geometry) (q : QuickCache) (qs : List QuickCache) (past : List ℕ) → AreHeld (g ∷ gs) (q ∷ qs) past → AreHeld gs qs past
later_held g gs q qs past h = record {
  number = let same : length (q ∷ qs) ≡ length (g ∷ gs) = h.number in omega arith;
  geometry = λ k quick at. h.geometry (suc k) quick at;
  each = λ k quick at. h.each (suc k) quick at;
}

counts_in : (gs : List Geometry) (qs : List QuickCache) (past : List ℕ) → AreHeld gs qs past → map noted qs ≡ map (counted past) gs
counts_in [] [] past h = refl
counts_in [] (q ∷ qs) past h = absurd (no_more (length qs) h.number)
counts_in (g ∷ gs) [] past h = absurd (no_more (length gs) (sym h.number))
counts_in (g ∷ gs) (q ∷ qs) past h =
    let of : Some g ≡ Some q.cache.geometry = h.geometry 0 q refl in
    let same : g ≡ q.cache.geometry = cc in
    let here : q.cache.misses ≡ saturated (misses_in q.cache.geometry past) = (h.each 0 q refl).cache.misses in
    let count : noted q ≡ counted past q.cache.geometry = λ i. record { geometry = q.cache.geometry; misses = here i } in
    (λ i. (count ∙ ap (counted past) (sym same)) i ∷ counts_in gs qs past (later_held g gs q qs past h) i)

pub ended_counts : (all : List Caches) (gs : List Geometry) (past : List ℕ) → AllEnded all gs past → flat_map noted_in all ≡ map (counted past) gs
ended_counts [] gs past none = ap (λ xs. map (counted past) xs) (sym none)
ended_counts (c ∷ all) gs past (front, rest, e, held, others) =
    (λ i. counts_in front c.caches.items past held i ++ ended_counts all rest past others i) ∙ sym (map-append (counted past) front rest)
    ∙ ap (λ xs. map (counted past) xs) (sym e)
