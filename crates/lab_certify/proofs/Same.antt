-- Lists with the same words at each place, tests of two truths, and what holds where a call succeeds.
use Rattle.std.proofs.Common.{◌≡◌, ℕ, suc, ◌-◌, ◌<◌, ◌≤◌, Bool, true, false, cond, not, List, [], ◌∷◌, length, Result, Ok, Err, refl, sym, ap, ◌∙◌, arith}
use Rattle.std.specs.Prelude.{◌≢◌, slice_get, OnOk}
use Rattle.std.proofs.lemmas.Bool.{false≢true}
use Rattle.std.proofs.lemmas.Option.{none-some, same_Some}

pub same_lists :
    (xs ys : List ℕ) (n : ℕ) → ((k : ℕ) → k < n → slice_get xs k ≡ slice_get ys k) → length xs ≤ n → length ys ≤ n → ys ≡ xs
same_lists [] [] n h l m = refl
same_lists [] (y ∷ ys) n h l m = absurd (none-some y (h 0 (omega arith)))
same_lists (x ∷ xs) [] n h l m = absurd (none-some x (sym (h 0 (omega arith))))
same_lists (x ∷ xs) (y ∷ ys) n h l m =
    ap (λ z. z ∷ ys) (same_Some y x (sym (h 0 (omega arith))))
    ∙ ap (λ zs. x ∷ zs) (same_lists xs ys (n - 1) (λ k low. h (suc k) (omega arith)) (omega arith) (omega arith))

pub alike_same : (a b r : Bool) → r ≡ cond a b (not b) → r ≡ true → b ≡ a
alike_same true true r e t = refl
alike_same true false r e t = absurd (false≢true (sym e ∙ t))
alike_same false true r e t = absurd (false≢true (sym e ∙ t))
alike_same false false r e t = refl

pub alike_other : (a b r : Bool) → r ≡ cond a b (not b) → r ≡ false → b ≡ a → ⊥
alike_other true true r e f q = false≢true (sym f ∙ e)
alike_other true false r e f q = false≢true q
alike_other false true r e f q = false≢true (sym q)
alike_other false false r e f q = false≢true (sym f ∙ e)

pub on_ok : {A E X Y : Type 0} (r : Result A E) → (X → Y) → OnOk r X → OnOk r Y
on_ok (Ok x) f h = f h
on_ok (Err e) f h = tt
