-- What a fetch makes of a cache of four sets.
use Rattle.std.proofs.Common.{◌≡◌, ◌≢◌, ℕ, zero, suc, true, false, eqb, List, [], ◌∷◌, set, Some, None, subst, refl, sym, ◌∙◌, ap, arith}
use Rattle.std.specs.List.{slice_get}
use Rattle.std.proofs.lemmas.Bool.Decides.{nat_tests}
use Rattle.mx_icache.specs.declared.line_set.Set.{Set}
use Rattle.mx_icache.specs.Residency.{line_of, set_of, allocated}
use Rattle.mx_icache.specs.LineSets.{line_in, SetHolds}

slice_get-set_same : {X : Type 0} (xs : List X) (i : ℕ) (x y : X) → slice_get (set xs i x) i ≡ Some y → y ≡ x
slice_get-set_same [] i x y h = absurd (cc)
slice_get-set_same (z ∷ xs) zero x y h = cc
slice_get-set_same (z ∷ xs) (suc i) x y h = slice_get-set_same xs i x y h

slice_get-set_other : {X : Type 0} (xs : List X) (i j : ℕ) (x : X) → j ≢ i → slice_get (set xs i x) j ≡ slice_get xs j
slice_get-set_other [] i j x ne = refl
slice_get-set_other (z ∷ xs) zero zero x ne = absurd (ne refl)
slice_get-set_other (z ∷ xs) zero (suc j) x ne = refl
slice_get-set_other (z ∷ xs) (suc i) zero x ne = refl
slice_get-set_other (z ∷ xs) (suc i) (suc j) x ne = slice_get-set_other xs i j x (λ e. ne (ap suc e))

-- what holds of four sets holds of each
pub each_of_four : {X : Type 0} (P : X → Type 0) (a b c d x : X) (s : ℕ) → P a → P b → P c → P d → slice_get (a ∷ b ∷ c ∷ d ∷ []) s ≡ Some x → P x
each_of_four P a b c d x zero p q r t h = let same : a ≡ x = cc in subst P same p
each_of_four P a b c d x (suc zero) p q r t h = let same : b ≡ x = cc in subst P same q
each_of_four P a b c d x (suc (suc zero)) p q r t h = let same : c ≡ x = cc in subst P same r
each_of_four P a b c d x (suc (suc (suc zero))) p q r t h = let same : d ≡ x = cc in subst P same t
each_of_four P a b c d x (suc (suc (suc (suc s)))) p q r t h = absurd (cc)

-- a set without a line, before the first fetch
pub set_begins : (set : Set) (s : ℕ) → set.next ≡ 0 → ((w : ℕ) → line_in set w ≡ None) → SetHolds set [] s
unfolding allocated
set_begins set s next none = record {
  ring = record { next_way = next; held = λ k p q. absurd (omega arith); empty = λ w p q. none w };
  apart = λ v w l p q at at'. let bad : None ≡ Some l = sym (none v) ∙ at in absurd (cc);
  words = λ w l j p at q. let bad : None ≡ Some l = sym (none w) ∙ at in absurd (cc);
}

-- the set of the address takes the fetch, and the others stay; a set is kept as it may be
pub sets_step : {X : Type 0} (Holds : X → List ℕ → ℕ → Type 0) (sets : List X) (a : ℕ) (past : List ℕ) (old new : X)
    → ((one : X) (s : ℕ) → set_of (line_of a) ≢ s → Holds one past s → Holds one (a ∷ past) s)
    → slice_get sets (set_of (line_of a)) ≡ Some old → (Holds old past (set_of (line_of a)) → Holds new (a ∷ past) (set_of (line_of a)))
    → ((s : ℕ) (one : X) → slice_get sets s ≡ Some one → Holds one past s) → (s : ℕ) (one : X) → slice_get (set sets (set_of (line_of a)) new) s ≡ Some one
    → Holds one (a ∷ past) s
sets_step Holds sets a past old new others here taken all s one at =
    elim (eqb s (set_of (line_of a))) as (λ t. eqb s (set_of (line_of a)) ≡ t → Holds one (a ∷ past) s) [
      | true ↦ λ e.
          let place : s ≡ set_of (line_of a) = grind (arith, nat_tests) in
          let is : one ≡ new = slice_get-set_same sets (set_of (line_of a)) new one (rw place at at) in
          rw (place, is) (taken (all (set_of (line_of a)) old here))
      | false ↦ λ e.
          let place : s ≢ set_of (line_of a) = grind (arith, nat_tests) in
          others one s (λ k. place (sym k)) (all s one (sym (slice_get-set_other sets (set_of (line_of a)) s new place) ∙ at))
    ] refl
