-- What holds at each place of two lists.
use Rattle.std.proofs.Common.{◌≡◌, ℕ, ◌+◌, ◌<◌, ◌≤◌, List, length, Some, sym, ap, ◌∙◌, subst, ⊎_elim, arith}
use Rattle.std.specs.Prelude.{slice_get, slice_index_or}
use Rattle.std.proofs.lemmas.Bool.{cases_lt}
use Rattle.std.proofs.lemmas.Option.{same_Some, slice_get_within, slice_get-get_or}
use Rattle.lab_certify.specs.declared.rejection.Rejection.{Rejection}
use Rattle.lab_certify.specs.Verified.{Before, AtBoth}
use Rattle.lab_certify.specs.Checks.{IsFirst}

pub none_before : (Holds : ℕ → Type 0) → Before Holds 0
none_before Holds k low = absurd (omega arith)

pub one_more : (Holds : ℕ → Type 0) (n : ℕ) → Holds n → Before Holds n → Before Holds (n + 1)
one_more Holds n here before k low = ⊎_elim
    (λ (below : k < n). before k below)
    (λ (at : n ≤ k). let same : n ≡ k = omega arith in subst Holds same here)
    (cases_lt k n)

-- what a read gives
pub read_at : {A : Type 0} (xs : List A) (k : ℕ) (x : A) → k < length xs → x ≡ slice_index_or xs k x → slice_get xs k ≡ Some x
read_at xs k x within is = slice_get-get_or xs k x within ∙ ap (λ y. Some y) (sym is)

module _ {A B : Type 0} (Holds : A → B → Type 0) (xs : List A) (ys : List B) where
  pub at_place : (k : ℕ) (x : A) (y : B) → slice_get xs k ≡ Some x → slice_get ys k ≡ Some y → Holds x y → AtBoth Holds xs ys k
  at_place k x y e f h = λ x' y' e' f'.
      subst (λ (b : B). Holds x' b) (same_Some y y' (sym f ∙ f')) (subst (λ (a : A). Holds a y) (same_Some x x' (sym e ∙ e')) h)

  -- it holds at one more place
  pub go_on :
      (k : ℕ) (x : A) (y : B) → k < length xs → k < length ys → x ≡ slice_index_or xs k x → y ≡ slice_index_or ys k y → Holds x y
      → Before (AtBoth Holds xs ys) k → Before (AtBoth Holds xs ys) (k + 1)
  go_on k x y low low' e f h before =
      one_more (AtBoth Holds xs ys) k (at_place k x y (read_at xs k x low e) (read_at ys k y low' f) h) before

  -- or something else is found there first
  pub stop_at :
      (Found : ℕ → A → B → Rejection → Type 0) (r : Rejection) (k : ℕ) (x : A) (y : B) → k < length xs → k < length ys
      → x ≡ slice_index_or xs k x → y ≡ slice_index_or ys k y → Found k x y r → Before (AtBoth Holds xs ys) k → IsFirst Holds Found xs ys r
  stop_at Found r k x y low low' e f found before = record {
    k = k;
    x = x;
    at = read_at xs k x low e;
    y = y;
    other_at = read_at ys k y low' f;
    found = found;
    before = before;
  }

  pub all_places : (n : ℕ) → Before (AtBoth Holds xs ys) n → length xs ≤ n → (k : ℕ) → AtBoth Holds xs ys k
  all_places n before long k = λ x y e f.
      let within = slice_get_within xs k x e in
      before k (omega arith) x y e f
