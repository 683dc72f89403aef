-- What a visit of a line changes: as much as one fetch of each of its groups, whatever the order and however often.
use Rattle.std.proofs.Common.{◌≡◌, ◌≢◌, ℕ, suc, ◌+◌, ◌%◌, ◌/◌, ◌^◌, ◌<◌, ◌≤◌, Bool, true, false, cond, eqb, not, ◌&&◌, ◌||◌, List, [], ◌∷◌, ◌++◌, bit_and, bit_or, refl, sym, ◌∙◌, ap, add_assoc, arith}
use Rattle.std.specs.Int.{bit_not, w64}
use Rattle.std.specs.Int.Count.{ones, ones_in}
use Rattle.std.specs.List.{All, list_any}
use Rattle.std.proofs.Math.Nat.{mod-lt, div-le_self}
use Rattle.lab_terms.specs.declared.geometry.Geometry.{Geometry}
use Rattle.mx_icache.specs.LineSets.{is_set}
use Rattle.mx_icache.proofs.Bits.{is_set-zero}
use Rattle.lab_cache.specs.Misses.{IsCache, line_of, group_of, set_of, is_among_last, allocated, is_held, fetched_since, resident_in, misses_in}
use Rattle.lab_cache.specs.Visits.{IsVisit}
use Rattle.lab_cache.proofs.Fetches.{with_line, allocated-cons, with_line-held, with_line-holds, fetched_since-here, fetched_since-other, misses_in-cons}
use Rattle.lab_cache.proofs.Ones.{same_mask, is_set-or, is_set-and, is_set-pow, is_set-not, ones-or}

no_ones : (n : ℕ) → n ≡ n + ones 0
unfolding ones ones_in
no_ones n = omega arith

-- the group of a word is one of 64
pub group_below : (g : Geometry) (a : ℕ) → IsCache g → group_of g a < 64
group_below g a is =
    let word : a % g.line < g.line = mod-lt a is.line in
    let group : a % g.line / g.brings ≤ a % g.line = div-le_self (a % g.line) g.brings in
    let short : g.line ≤ 64 = is.short in
    omega arith

module _ (g : Geometry) (is : IsCache g) (l : ℕ) (past : List ℕ) where
  abbrev Alone : List ℕ → Type 0
  Alone v = All (λ a. line_of g a ≡ l) v

  first : (x : ℕ) (v : List ℕ) → Alone (x ∷ v) → line_of g x ≡ l
  first x v h = h 0 0 (omega arith)

  later : (x : ℕ) (v : List ℕ) → Alone (x ∷ v) → Alone v
  later x v h = λ k d p. h (suc k) d (omega arith)

  holds : (lines : List ℕ) → lines ≡ with_line g past l (set_of g l) → is_among_last g lines l ≡ true
  holds lines e = rw e (with_line-holds g past l is.ways)

  -- the line is allocated once, where it was not held
  pub visit_lines : (x : ℕ) (v : List ℕ) → Alone (x ∷ v) → (s : ℕ) → allocated g (x ∷ v ++ past) s ≡ with_line g past l s
  visit_lines x [] h s = allocated-cons g x past s ∙ ap (λ m. with_line g past m s) (first x [] h)
  visit_lines x (y ∷ v) h s =
      allocated-cons g x (y ∷ v ++ past) s ∙ ap (λ m. with_line g (y ∷ v ++ past) m s) (first x (y ∷ v) h)
      ∙ with_line-held g (y ∷ v ++ past) l s (holds (allocated g (y ∷ v ++ past) (set_of g l)) (visit_lines y v (later x (y ∷ v) h) (set_of g l)))
      ∙ visit_lines y v (later x (y ∷ v) h) s

  pub visit_holds : (x : ℕ) (v : List ℕ) → Alone (x ∷ v) → is_held g (x ∷ v ++ past) l ≡ true
  visit_holds x v h = holds (allocated g (x ∷ v ++ past) (set_of g l)) (visit_lines x v h (set_of g l))

  -- the groups that it fetched are added to those that were there
  pub visit_fetched : (x : ℕ) (v : List ℕ) → Alone (x ∷ v) → (j : ℕ)
      → fetched_since g (x ∷ v ++ past) l j ≡ (list_any (λ a. eqb (group_of g a) j) (x ∷ v) || (is_held g past l && fetched_since g past l j))
  visit_fetched x [] h j = fetched_since-here g x past l j (first x [] h) ∙ no_other (eqb (group_of g x) j) (is_held g past l && fetched_since g past l j)
    where
      no_other : (a b : Bool) → (a || b) ≡ ((a || false) || b)
      no_other true b = refl
      no_other false b = refl
  visit_fetched x (y ∷ v) h j =
      fetched_since-here g x (y ∷ v ++ past) l j (first x (y ∷ v) h)
      ∙ ap (λ t. eqb (group_of g x) j || t && fetched_since g (y ∷ v ++ past) l j) (visit_holds y v (later x (y ∷ v) h))
      ∙ ap (λ t. eqb (group_of g x) j || t) (visit_fetched y v (later x (y ∷ v) h) j)
      ∙ regrouped (eqb (group_of g x) j) (list_any (λ a. eqb (group_of g a) j) (y ∷ v)) (is_held g past l && fetched_since g past l j)
    where
      regrouped : (a b c : Bool) → (a || (b || c)) ≡ ((a || b) || c)
      regrouped true b c = refl
      regrouped false b c = refl

  -- no other line is touched
  pub visit_others : (v : List ℕ) → Alone v → (m j : ℕ) → m ≢ l → fetched_since g (v ++ past) m j ≡ fetched_since g past m j
  visit_others [] h m j ne = refl
  visit_others (x ∷ v) h m j ne = fetched_since-other g x (v ++ past) m j (λ e. ne (sym e ∙ first x v h)) ∙ visit_others v (later x v h) m j ne

  -- the groups that a visit fetches
  abbrev mask_of : List ℕ → ℕ
  mask_of [] = 0
  mask_of (x ∷ v) = bit_or (mask_of v) (2 ^ group_of g x)

  mask_of-is_set : (v : List ℕ) (j : ℕ) → is_set (mask_of v) j ≡ list_any (λ a. eqb (group_of g a) j) v
  mask_of-is_set [] j = is_set-zero j
  mask_of-is_set (x ∷ v) j =
      is_set-or (mask_of v) (2 ^ group_of g x) j ∙ ap (λ t. t || is_set (2 ^ group_of g x) j) (mask_of-is_set v j)
      ∙ ap (λ t. list_any (λ a. eqb (group_of g a) j) v || t) (is_set-pow (group_of g x) j)
      ∙ turned (list_any (λ a. eqb (group_of g a) j) v) (eqb (group_of g x) j)
    where
      turned : (a b : Bool) → (a || b) ≡ (b || a)
      turned true true = refl
      turned true false = refl
      turned false true = refl
      turned false false = refl

  -- what is resident once a part of the visit was fetched
  pub visit_resident : (x : ℕ) (v : List ℕ) → Alone v → line_of g x ≡ l
      → resident_in g (v ++ past) x
      ≡ (list_any (λ a. eqb (group_of g a) (group_of g x)) v || (is_held g past l && fetched_since g past l (group_of g x)))
  visit_resident x [] h here = λ k. is_held g past (here k) && fetched_since g past (here k) (group_of g x)
  visit_resident x (y ∷ v) h here =
      (λ k. is_held g (y ∷ v ++ past) (here k) && fetched_since g (y ∷ v ++ past) (here k) (group_of g x))
      ∙ ap (λ t. t && fetched_since g (y ∷ v ++ past) l (group_of g x)) (visit_holds y v h) ∙ visit_fetched y v h (group_of g x)

  -- each group that was not valid misses once
  module _ (valid : ℕ) (small : valid < 2 ^ 64) (known : (j : ℕ) → j < 64 → is_set valid j ≡ (is_held g past l && fetched_since g past l j)) where
    each_once : (v : List ℕ) → Alone v → misses_in g (v ++ past) ≡ misses_in g past + ones (bit_and (mask_of v) (bit_not w64 valid))
    each_once [] h = let none : bit_and 0 (bit_not w64 valid) ≡ 0 = same_mask (bit_and 0 (bit_not w64 valid)) 0
        (λ i. is_set-and 0 (bit_not w64 valid) i ∙ ap (λ t. t && is_set (bit_not w64 valid) i) (is_set-zero i) ∙ sym (is_set-zero i)) in
        rw none (no_ones (misses_in g past))
    each_once (x ∷ v) h =
        misses_in-cons g x (v ++ past) ∙ ap (λ n. n + cond (resident_in g (v ++ past) x) 0 1) (each_once v (later x v h))
        ∙ ap (λ t. misses_in g past + ones (bit_and (mask_of v) (bit_not w64 valid)) + cond t 0 1) same
        ∙ add_assoc (misses_in g past) (ones (bit_and (mask_of v) (bit_not w64 valid)))
        (cond (is_set (mask_of v) (group_of g x) || not (is_set (bit_not w64 valid) (group_of g x))) 0 1)
        ∙ ap (λ n. misses_in g past + n) (sym (ones-or (mask_of v) (bit_not w64 valid) (group_of g x)))
      where
        back : (b : Bool) → b ≡ not (not b)
        back true = refl
        back false = refl

        same : resident_in g (v ++ past) x ≡ (is_set (mask_of v) (group_of g x) || not (is_set (bit_not w64 valid) (group_of g x)))
        same = visit_resident x v (later x v h) (first x v h) ∙ ap (λ t. t || (is_held g past l && fetched_since g past l (group_of g x)))
            (sym (mask_of-is_set v (group_of g x)))
            ∙ ap (λ t. is_set (mask_of v) (group_of g x) || t) (sym (known (group_of g x) (group_below g x is)) ∙ back (is_set valid (group_of g x))
            ∙ ap not (sym (is_set-not valid (group_of g x) small (group_below g x is))))

    pub visit_misses : (groups : ℕ) (v : List ℕ) → IsVisit g l groups v
        → misses_in g (v ++ past) ≡ misses_in g past + ones (bit_and groups (bit_not w64 valid))
    visit_misses groups v visit =
        let all : mask_of v ≡ groups = same_mask (mask_of v) groups (λ j. mask_of-is_set v j ∙ sym (visit.bits j)) in
        each_once v visit.alone ∙ ap (λ m. misses_in g past + ones (bit_and m (bit_not w64 valid))) all
