-- Lines that go round 8 ways.
use Rattle.std.proofs.Common.{◌≡◌, ◌≢◌, ℕ, zero, suc, ◌+◌, ◌-◌, ◌%◌, ◌<◌, ◌≤◌, true, false, eqb, ltb, List, [], ◌∷◌, length, take, get_or, Option, Some, None, refl, sym, ◌∙◌, ap, arith}
use Rattle.std.specs.List.{list_any}
use Rattle.std.proofs.lemmas.List.Folds.{list_any_at}
use Rattle.std.proofs.lemmas.Bool.Decides.{nat_tests}
use Rattle.std.proofs.lemmas.Grind.{common_steps}
use Rattle.mx_icache.specs.Residency.{is_among_last}
use Rattle.mx_icache.specs.LineSets.{GoesRound}

-- a line at one of the first 8 places is among the last 8
pub among_at : (lines : List ℕ) (l i : ℕ) → i < 8 → i < length lines → get_or lines i 0 ≡ l → is_among_last lines l ≡ true
among_at lines l i small within is =
    let place : i < length (take 8 lines) = grind (arith, common_steps) in
    let same : get_or (take 8 lines) i 0 ≡ l = grind (arith, common_steps) in
    let test : eqb (get_or (take 8 lines) i 0) l ≡ true = grind (arith, nat_tests) in
    list_any_at (λ m. eqb m l) (take 8 lines) i 0 place test

not_among_first : (n : ℕ) (lines : List ℕ) (l : ℕ) → ((i : ℕ) → i < n → i < length lines → get_or lines i 0 ≢ l)
    → list_any (λ m. eqb m l) (take n lines) ≡ false
not_among_first zero lines l h = refl
not_among_first (suc n) [] l h = refl
not_among_first (suc n) (x ∷ lines) l h =
    let first : x ≢ l = h 0 (omega arith) (omega arith) in
    let test : eqb x l ≡ false = grind (arith, nat_tests) in
    let rest : list_any (λ m. eqb m l) (take n lines) ≡ false = not_among_first n lines l (λ i p q. h (suc i) (omega arith) (omega arith)) in
    rw (test, rest) refl

-- a line in a way is among the last 8
pub ring_inside : (next : ℕ) (line : ℕ → Option ℕ) (lines : List ℕ) → GoesRound next line lines → (w l : ℕ) → w < 8 → line w ≡ Some l
    → is_among_last lines l ≡ true
ring_inside next line lines r w l p at =
    elim (ltb w (length lines)) as (λ t. ltb w (length lines) ≡ t → is_among_last lines l ≡ true) [
      | true ↦ λ e.
          let within : w < length lines = grind (arith, nat_tests) in
          let back : (length lines - 1 - w) % 8 < 8 = omega arith in
          let way : (length lines - 1 - (length lines - 1 - w) % 8) % 8 ≡ w = omega arith in
          let is : line ((length lines - 1 - (length lines - 1 - w) % 8) % 8)
          ≡ Some (get_or lines (length lines - 1 - (length lines - 1 - (length lines - 1 - w) % 8)) 0) =
          r.held (length lines - 1 - (length lines - 1 - w) % 8) (omega arith) (omega arith) in
          let found : Some (get_or lines (length lines - 1 - (length lines - 1 - (length lines - 1 - w) % 8)) 0) ≡ Some l = sym is ∙ ap line way ∙ at in
          let same : get_or lines (length lines - 1 - (length lines - 1 - (length lines - 1 - w) % 8)) 0 ≡ l = cc in
          among_at lines l (length lines - 1 - (length lines - 1 - (length lines - 1 - w) % 8)) (omega arith) (omega arith) same
      | false ↦ λ e.
          let beyond : length lines ≤ w = grind (arith, nat_tests) in
          let bad : None ≡ Some l = sym (r.empty w beyond p) ∙ at in
          absurd (cc)
    ] refl

-- a line in no way is not among the last 8
pub ring_absent : (next : ℕ) (line : ℕ → Option ℕ) (lines : List ℕ) (l : ℕ) → GoesRound next line lines → ((w : ℕ) → w < 8 → line w ≢ Some l)
    → is_among_last lines l ≡ false
ring_absent next line lines l r none =
    not_among_first 8 lines l (λ i p q e.
    let at : line ((length lines - 1 - i) % 8) ≡ Some (get_or lines (length lines - 1 - (length lines - 1 - i)) 0) =
    r.held (length lines - 1 - i) (omega arith) (omega arith) in
    let place : length lines - 1 - (length lines - 1 - i) ≡ i = omega arith in
    none ((length lines - 1 - i) % 8) (omega arith) (at ∙ ap Some (ap (λ k. get_or lines k 0) place ∙ e)))

-- one more line
pub ring_more : (next after : ℕ) (line new : ℕ → Option ℕ) (lines : List ℕ) (l : ℕ) → GoesRound next line lines → after ≡ (next + 1) % 8 → new next ≡ Some l
    → ((w : ℕ) → w ≢ next → new w ≡ line w) → GoesRound after new (l ∷ lines)
ring_more next after line new lines l r step here kept = record {
  next_way = let e : next ≡ length lines % 8 = r.next_way in omega arith;
  held = λ k p q.
      elim (eqb k (length lines)) as (λ t. eqb k (length lines) ≡ t → new (k % 8) ≡ Some (get_or (l ∷ lines) (length (l ∷ lines) - 1 - k) 0)) [
        | true ↦ λ e.
            let newest : k ≡ length lines = grind (arith, nat_tests) in
            let way : k % 8 ≡ next = ap (λ n. n % 8) newest ∙ sym r.next_way in
            let place : length (l ∷ lines) - 1 - k ≡ 0 = omega arith in
            ap new way ∙ here ∙ ap (λ i. Some (get_or (l ∷ lines) i 0)) (sym place)
        | false ↦ λ e.
            let older : k < length lines = let ne : k ≢ length lines = grind (arith, nat_tests) in omega arith in
            let way : k % 8 ≢ next = λ same. let e' : k % 8 ≡ length lines % 8 = same ∙ r.next_way in omega arith in
            let place : length (l ∷ lines) - 1 - k ≡ suc (length lines - 1 - k) = omega arith in
            kept (k % 8) way ∙ r.held k older (omega arith) ∙ ap (λ i. Some (get_or (l ∷ lines) i 0)) (sym place)
      ] refl;
  empty = λ w p q.
      let way : w ≢ next = λ same. let e : w ≡ length lines % 8 = same ∙ r.next_way in omega arith in
      kept w way ∙ r.empty w (omega arith) q;
}
