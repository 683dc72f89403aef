-- Among rising numbers the next request is the only one that can come in a cycle.
use Rattle.std.proofs.Common.{◌≡◌, ◌≢◌, ◌<◌, ◌≤◌, ◌+◌, ◌-◌, ◌⊎◌, inl, inr, ℕ, zero, suc, true, false, cond, List, [], ◌∷◌, ◌++◌, length, get_or}
use Rattle.std.proofs.Common.{refl, arith, ap, ◌∙◌, subst, sym, ⊎_elim}
use Rattle.std.specs.Prelude.{eqb, nat_lt, min}
use Rattle.std.specs.List.{prefix_len}
use Rattle.std.specs.List.Sorted.{IsStrictlyIncreasing}
use Rattle.std.proofs.lemmas.Bool.{cases_Bool, cases_lt, cond-true}
use Rattle.std.proofs.lemmas.Bool.Decides.{nat_tests}
use Rattle.std.proofs.lemmas.Grind.{get_or_default_zero}
use Rattle.std.proofs.lemmas.List.Kept.{AllPairs-from_increasing}
use Rattle.std.proofs.lemmas.List.Sums.{prefix_len_is}
use Rattle.std.proofs.lemmas.List.Folds.{list_any_at, list_any_none}
use Rattle.mx_board.specs.RequestFile.{is_wanted}
use Rattle.mx_turn.specs.Program.{quiet}
use Rattle.mx_turn.specs.Run.{bits}
use Rattle.mx_report.specs.Cursor.{met_before, next_at, IsAt}
use Rattle.mx_report.specs.declared.cursor.TheConstants.{NEVER}
use Rattle.mx_report.specs.declared.cursor.Cursor.{Cursor}

-- the requests before a place come before cycle n, and those from it on do not
pub record Parts (xs : List ℕ) (place n : ℕ) : Type 0 where
  pub within : place ≤ length xs
  pub before : (k : ℕ) → k < place → get_or xs k 0 < n
  pub behind : (k : ℕ) → place ≤ k → k < length xs → n ≤ get_or xs k 0

module _ (xs : List ℕ) (rising : IsStrictlyIncreasing xs) (place n : ℕ) (parts : Parts xs place n) where
  pub wanted_here : place < length xs → get_or xs place 0 ≡ n → is_wanted xs n ≡ true
  wanted_here within here =
      let test : eqb (get_or xs place 0) n ≡ true = grind (arith, nat_tests) in
      list_any_at (λ c. eqb c n) xs place 0 within test

  pub parts_here : place < length xs → get_or xs place 0 ≡ n → Parts xs (suc place) (suc n)
  parts_here inside here = record {
    within = omega (arith, inside);
    before = λ k lt.
        let earlier : k < place → get_or xs k 0 < n = λ less. parts.before k less in
        let same : k ≡ place → get_or xs k 0 ≡ n = λ e. ap (λ i. get_or xs i 0) e ∙ here in
        grind arith;
    behind = λ k order lt.
        let later : get_or xs place 0 < get_or xs k 0 = AllPairs-from_increasing xs rising place k 0 (omega (arith, order)) lt in
        omega (arith, later, here);
  }

  module _ (elsewhere : place < length xs → get_or xs place 0 ≢ n) where
    above : (k : ℕ) → place ≤ k → k < length xs → n < get_or xs k 0
    above k order lt =
        let first : n ≤ get_or xs place 0 = parts.behind place (omega arith) (omega (arith, order, lt)) in
        let other : get_or xs place 0 ≢ n = elsewhere (omega (arith, order, lt)) in
        let same : place ≡ k → get_or xs place 0 ≡ get_or xs k 0 = λ e. ap (λ i. get_or xs i 0) e in
        let later : place < k → get_or xs place 0 < get_or xs k 0 = λ less. AllPairs-from_increasing xs rising place k 0 less lt in
        grind arith

    pub wanted_nowhere : is_wanted xs n ≡ false
    wanted_nowhere = list_any_none (λ c. eqb c n) xs (λ k d lt.
        let earlier : k < place → get_or xs k 0 < n = λ less. parts.before k less in
        let later : place ≤ k → n < get_or xs k 0 = λ order. above k order lt in
        let test : eqb (get_or xs k 0) n ≡ false = grind (arith, nat_tests) in
        rw (get_or_default_zero xs k d lt, test) refl)

    pub parts_elsewhere : Parts xs place (suc n)
    parts_elsewhere = record {
      within = parts.within;
      before = λ k lt. let earlier : get_or xs k 0 < n = parts.before k lt in omega arith;
      behind = λ k order lt. let later : n < get_or xs k 0 = above k order lt in omega arith;
    }

-- whether the number at a place is there and is n
found_or_not : (xs : List ℕ) (place n : ℕ) → ((place < length xs) × (get_or xs place 0 ≡ n)) ⊎ (place < length xs → get_or xs place 0 ≢ n)
found_or_not xs place n = ⊎_elim
    (λ lt. ⊎_elim
    (λ (t : eqb (get_or xs place 0) n ≡ true). let same : get_or xs place 0 ≡ n = grind (arith, nat_tests) in inl (lt, same))
    (λ (t : eqb (get_or xs place 0) n ≡ false). let other : get_or xs place 0 ≢ n = grind (arith, nat_tests) in inr (λ _. other))
    (cases_Bool (eqb (get_or xs place 0) n)))
    (λ ge. inr (λ lt. absurd (omega (arith, lt, ge))))
    (cases_lt place (length xs))

-- the place of the next request parts those before a cycle from the others
pub parts_at : (xs : List ℕ) → IsStrictlyIncreasing xs → (n : ℕ) → Parts xs (met_before xs n) n
parts_at xs rising zero = record {
  within = omega arith;
  before = λ k lt. absurd (omega (arith, lt));
  behind = λ k order lt. omega arith;
}
parts_at xs rising (suc n) =
    let place = met_before xs n in
    let parts = parts_at xs rising n in
    ⊎_elim
    (λ found.
    let e : place + cond (is_wanted xs n) 1 0 ≡ suc place = ap (λ b. place + cond b 1 0) (wanted_here xs rising place n parts found.0 found.1) ∙ omega arith in
    subst (λ k. Parts xs k (suc n)) (sym e) (parts_here xs rising place n parts found.0 found.1))
    (λ elsewhere.
    let e : place + cond (is_wanted xs n) 1 0 ≡ place = ap (λ b. place + cond b 1 0) (wanted_nowhere xs rising place n parts elsewhere) ∙ omega arith in
    subst (λ k. Parts xs k (suc n)) (sym e) (parts_elsewhere xs rising place n parts elsewhere))
    (found_or_not xs place n)

-- so many stand in front that are before the cycle
pub first_not_before : (xs : List ℕ) → IsStrictlyIncreasing xs → (n : ℕ) → prefix_len (λ c. nat_lt c n) xs ≡ met_before xs n
first_not_before xs rising n =
    let place = met_before xs n in
    let parts = parts_at xs rising n in
    prefix_len_is (λ c. nat_lt c n) xs place 0 parts.within
    (λ k lt. let less = parts.before k lt in grind (arith, nat_tests))
    (λ lt. let more = parts.behind place (omega arith) lt in grind (arith, nat_tests))

next_is_not : (xs : List ℕ) (place n : ℕ) → next_at xs place ≢ n → place < length xs → get_or xs place 0 ≢ n
next_is_not xs place n other lt =
    let test : nat_lt place (length xs) ≡ true = grind (arith, nat_tests) in
    λ e. other (cond-true _ (get_or xs place 0) NEVER test ∙ e)

module _ (xs : List ℕ) (rising : IsStrictlyIncreasing xs) (cursor : Cursor) (n : ℕ) (at : IsAt xs cursor n) where
  parts_now : Parts xs cursor.place n
  parts_now = subst (λ k. Parts xs k n) (sym at.0) (parts_at xs rising n)

  module _ (other : cursor.next ≢ n) where
    nowhere : cursor.place < length xs → get_or xs cursor.place 0 ≢ n
    nowhere = next_is_not xs cursor.place n (λ e. other (at.1 ∙ e))

    pub passed_unwanted : is_wanted xs n ≡ false
    passed_unwanted = wanted_nowhere xs rising cursor.place n parts_now nowhere

    pub passed_same : cursor.place ≡ met_before xs (suc n)
    passed_same = at.0 ∙ omega arith ∙ ap (λ b. met_before xs n + cond b 1 0) (sym passed_unwanted)

-- the cycles before the next request have none
pub skipped : (xs : List ℕ) → IsStrictlyIncreasing xs → (cursor : Cursor) (n : ℕ) → IsAt xs cursor n → (k m : ℕ) → m ≡ n + k → k ≤ cursor.next - n
    → (bits xs m ≡ quiet (bits xs n) k) × IsAt xs cursor m
skipped xs rising cursor n at zero m e le = let same : n ≡ m = omega (arith, e) in (sym (ap (bits xs) same), subst (IsAt xs cursor) same at)
skipped xs rising cursor n at (suc k) zero e le = absurd (omega (arith, e))
skipped xs rising cursor n at (suc k) (suc m) e le =
    let before : m ≡ n + k = omega (arith, e) in
    let earlier = skipped xs rising cursor n at k m before (omega (arith, le)) in
    let other : cursor.next ≢ m = λ same. absurd (omega (arith, same, le, before)) in (
      λ i. earlier.0 i ++ passed_unwanted xs rising cursor m earlier.1 other i ∷ [],
      (passed_same xs rising cursor m earlier.1 other, earlier.1.1),
    )

-- nor do those until then within a budget, with one cycle left
pub passed : (xs : List ℕ) → IsStrictlyIncreasing xs → (cursor : Cursor) (n : ℕ) → IsAt xs cursor n → (k most to : ℕ)
    → most ≡ min cursor.next (to - 1) - n → k ≤ most → (bits xs (k + n) ≡ quiet (bits xs n) k) × IsAt xs cursor (k + n)
passed xs rising cursor n at k most to is le = skipped xs rising cursor n at k (k + n) (omega arith) (omega (arith, is, le))
