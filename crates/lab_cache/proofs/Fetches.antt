-- What one more fetch changes of the lines that were allocated, and of what was fetched since then.
use Rattle.std.proofs.Common.{◌≡◌, ◌≢◌, ℕ, zero, suc, ◌+◌, ◌<◌, Bool, true, false, cond, eqb, not, ◌&&◌, ◌||◌, List, [], ◌∷◌, take, Some, refl, sym, ◌∙◌, ap, arith}
use Rattle.std.specs.List.{list_any, slice_get}
use Rattle.std.proofs.lemmas.Bool.Decides.{nat_tests}
use Rattle.lab_terms.specs.declared.geometry.Geometry.{Geometry}
use Rattle.lab_cache.specs.Misses.{line_of, group_of, set_of, is_among_last, allocated, is_held, fetched_since, resident_in, misses_in}

-- the lines of a set once a line is fetched
abbrev pub with_line : Geometry → List ℕ → ℕ → ℕ → List ℕ
with_line g past l s = cond (eqb (set_of g l) s && not (is_among_last g (allocated g past s) l)) (l ∷ allocated g past s) (allocated g past s)

pub allocated-cons : (g : Geometry) (a : ℕ) (past : List ℕ) (s : ℕ) → allocated g (a ∷ past) s ≡ with_line g past (line_of g a) s
unfolding allocated
allocated-cons g a past s = refl

pub with_line-other : (g : Geometry) (past : List ℕ) (l s : ℕ) → set_of g l ≢ s → with_line g past l s ≡ allocated g past s
with_line-other g past l s ne = let test : eqb (set_of g l) s ≡ false = grind (arith, nat_tests) in rw test refl

pub with_line-held : (g : Geometry) (past : List ℕ) (l s : ℕ) → is_held g past l ≡ true → with_line g past l s ≡ allocated g past s
with_line-held g past l s held =
    elim (eqb (set_of g l) s) as (λ v. eqb (set_of g l) s ≡ v
    → cond (v && not (is_among_last g (allocated g past s) l)) (l ∷ allocated g past s) (allocated g past s)
    ≡ allocated g past s) [
      | true ↦ λ h. let same : set_of g l ≡ s = grind (arith, nat_tests) in
          let here : is_among_last g (allocated g past s) l ≡ true = rw same at held in rw here refl
      | false ↦ λ h. refl
    ] refl

pub with_line-missed : (g : Geometry) (past : List ℕ) (l : ℕ) → is_held g past l ≡ false → with_line g past l (set_of g l) ≡ l ∷ allocated g past (set_of g l)
with_line-missed g past l missing = let test : eqb (set_of g l) (set_of g l) ≡ true = grind (arith, nat_tests) in rw (test, missing) refl

first_of : (n l : ℕ) (lines : List ℕ) → 0 < n → list_any (λ m. eqb m l) (take n (l ∷ lines)) ≡ true
first_of zero l lines h = absurd (omega arith)
first_of (suc n) l lines h = let test : eqb l l ≡ true = grind (arith, nat_tests) in rw test refl

-- a fetched line is held
pub with_line-holds : (g : Geometry) (past : List ℕ) (l : ℕ) → 0 < g.ways → is_among_last g (with_line g past l (set_of g l)) l ≡ true
with_line-holds g past l some =
    elim (is_held g past l) as (λ v. is_held g past l ≡ v → is_among_last g (with_line g past l (set_of g l)) l ≡ true) [
      | true ↦ λ h. rw (with_line-held g past l (set_of g l) h) h
      | false ↦ λ h. rw (with_line-missed g past l h) (first_of g.ways l (allocated g past (set_of g l)) some)
    ] refl

pub fetched_since-here : (g : Geometry) (a : ℕ) (past : List ℕ) (l j : ℕ) → line_of g a ≡ l
    → fetched_since g (a ∷ past) l j ≡ (eqb (group_of g a) j || is_held g past l && fetched_since g past l j)
unfolding fetched_since
fetched_since-here g a past l j same = let test : eqb (line_of g a) l ≡ true = grind (arith, nat_tests) in rw test refl

pub fetched_since-other : (g : Geometry) (a : ℕ) (past : List ℕ) (l j : ℕ) → line_of g a ≢ l → fetched_since g (a ∷ past) l j ≡ fetched_since g past l j
unfolding fetched_since
fetched_since-other g a past l j other = let test : eqb (line_of g a) l ≡ false = grind (arith, nat_tests) in rw test refl

-- a line at one of the first places is among the last, and no other is
pub among_from_place : (n : ℕ) (lines : List ℕ) (i l : ℕ) → i < n → slice_get lines i ≡ Some l → list_any (λ m. eqb m l) (take n lines) ≡ true
among_from_place zero lines i l h at = absurd (omega arith)
among_from_place (suc n) [] i l h at = absurd (cc)
among_from_place (suc n) (x ∷ lines) zero l h at = let same : x ≡ l = cc in let test : eqb x l ≡ true = grind (arith, nat_tests) in rw test refl
among_from_place (suc n) (x ∷ lines) (suc i) l h at =
    either (eqb x l) (list_any (λ m. eqb m l) (take n lines)) (among_from_place n lines i l (omega arith) at)
  where
    either : (v w : Bool) → w ≡ true → (v || w) ≡ true
    either true w e = refl
    either false w e = e

pub not_among_from_places : (n : ℕ) (lines : List ℕ) (l : ℕ) → ((i : ℕ) → i < n → slice_get lines i ≢ Some l) → list_any (λ m. eqb m l) (take n lines) ≡ false
not_among_from_places zero lines l h = refl
not_among_from_places (suc n) [] l h = refl
not_among_from_places (suc n) (x ∷ lines) l h =
    let first : x ≢ l = λ e. h 0 (omega arith) (ap Some e) in
    let test : eqb x l ≡ false = grind (arith, nat_tests) in
    let rest : list_any (λ m. eqb m l) (take n lines) ≡ false = not_among_from_places n lines l (λ i p. h (suc i) (omega arith)) in
    rw (test, rest) refl

pub place_from_among : (n : ℕ) (lines : List ℕ) (l : ℕ) → list_any (λ m. eqb m l) (take n lines) ≡ true → (i : ℕ) × (i < n) × (slice_get lines i ≡ Some l)
place_from_among zero lines l h = absurd (cc)
place_from_among (suc n) [] l h = absurd (cc)
place_from_among (suc n) (x ∷ lines) l h =
    elim (eqb x l) as (λ v. eqb x l ≡ v → (v || list_any (λ m. eqb m l) (take n lines)) ≡ true → (i : ℕ) × (i < suc n) × (slice_get (x ∷ lines) i ≡ Some l)) [
      | true ↦ λ e k. let same : x ≡ l = grind (arith, nat_tests) in (0, omega arith, ap Some same)
      | false ↦ λ e k. let rest = place_from_among n lines l k in let below : rest.0 < n = rest.1 in (suc rest.0, omega (arith, below), rest.2)
    ] refl h

-- lines among those allocated in a set are of that set
among_cons : (g : Geometry) (s l n x : ℕ) (before : List ℕ) (c : Bool) → (c ≡ true → set_of g x ≡ s)
    → ((m : ℕ) → list_any (λ y. eqb y l) (take m before) ≡ true → set_of g l ≡ s)
    → list_any (λ y. eqb y l) (take n (cond c (x ∷ before) before)) ≡ true → set_of g l ≡ s
among_cons g s l n x before false first others h = others n h
among_cons g s l zero x before true first others h = absurd (cc)
among_cons g s l (suc n) x before true first others h =
    elim (eqb x l) as (λ v. eqb x l ≡ v → (v || list_any (λ y. eqb y l) (take n before)) ≡ true → set_of g l ≡ s)
    [ true ↦ λ e k. let same : x ≡ l = grind (arith, nat_tests) in rw same at (first refl) | false ↦ λ e k. others n k ] refl h

pub allocated-set : (g : Geometry) (past : List ℕ) (s l n : ℕ) → list_any (λ y. eqb y l) (take n (allocated g past s)) ≡ true → set_of g l ≡ s
unfolding allocated
allocated-set g [] s l zero h = absurd (cc)
allocated-set g [] s l (suc n) h = absurd (cc)
allocated-set g (a ∷ past) s l n h =
    among_cons g s l n (line_of g a) (allocated g past s) (eqb (set_of g (line_of g a)) s && not (is_among_last g (allocated g past s) (line_of g a)))
    (λ e. and_first (set_of g (line_of g a)) s (not (is_among_last g (allocated g past s) (line_of g a))) e) (λ m k. allocated-set g past s l m k) h
  where
    and_first : (x s : ℕ) (v : Bool) → (eqb x s && v) ≡ true → x ≡ s
    and_first x s v e = grind (arith, nat_tests)

pub misses_in-cons : (g : Geometry) (a : ℕ) (past : List ℕ) → misses_in g (a ∷ past) ≡ misses_in g past + cond (resident_in g past a) 0 1
unfolding misses_in
misses_in-cons g a past = refl

-- no line is twice among the last allocated in a set
apart_cons : (g : Geometry) (x l i k : ℕ) (before : List ℕ) (c : Bool) → (c ≡ true → is_among_last g before x ≡ false) → i < g.ways → k < g.ways
    → ((u w : ℕ) → u < g.ways → w < g.ways → slice_get before u ≡ Some l → slice_get before w ≡ Some l → u ≡ w)
    → slice_get (cond c (x ∷ before) before) i ≡ Some l → slice_get (cond c (x ∷ before) before) k ≡ Some l → i ≡ k
apart_cons g x l i k before false new p q old at at' = old i k p q at at'
apart_cons g x l zero zero before true new p q old at at' = refl
apart_cons g x l zero (suc k) before true new p q old at at' =
    let same : x ≡ l = cc in
    let bad : true ≡ false = sym (among_from_place g.ways before k l (omega arith) at')
    ∙ ap (λ m. is_among_last g before m) (sym same) ∙ new refl in absurd (cc)
apart_cons g x l (suc i) zero before true new p q old at at' =
    let same : x ≡ l = cc in
    let bad : true ≡ false = sym (among_from_place g.ways before i l (omega arith) at) ∙ ap (λ m. is_among_last g before m) (sym same) ∙ new refl in absurd (cc)
apart_cons g x l (suc i) (suc k) before true new p q old at at' = ap suc (old i k (omega arith) (omega arith) at at')

pub allocated-apart : (g : Geometry) (past : List ℕ) (s l i k : ℕ) → i < g.ways → k < g.ways
    → slice_get (allocated g past s) i ≡ Some l → slice_get (allocated g past s) k ≡ Some l → i ≡ k
unfolding allocated
allocated-apart g [] s l i k p q at at' = absurd (cc)
allocated-apart g (a ∷ past) s l i k p q at at' =
    apart_cons g (line_of g a) l i k (allocated g past s) (eqb (set_of g (line_of g a)) s && not (is_among_last g (allocated g past s) (line_of g a)))
    (λ e. not_among (eqb (set_of g (line_of g a)) s) (is_among_last g (allocated g past s) (line_of g a)) e) p q
    (λ u w p' q' h h'. allocated-apart g past s l u w p' q' h h') at at'
  where
    not_among : (b c : Bool) → (b && not c) ≡ true → c ≡ false
    not_among b false e = refl
    not_among true true e = absurd (cc)
    not_among false true e = absurd (cc)
