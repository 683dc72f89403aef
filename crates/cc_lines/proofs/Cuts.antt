-- Where the first element of a list stands that passes a test.
use Rattle.std.proofs.Common.{◌≡◌, ℕ, ◌≤◌, Bool, true, false, cond, not, ltb, List, length, Some, None, refl, sym, arith}
use Rattle.std.specs.List.{position, position_or_len}
use Rattle.std.proofs.lemmas.Bool.Decides.{nat_tests}
use Rattle.std.proofs.lemmas.List.Sums.{prefix_len-le-length}

chosen : (b : Bool) (k at : ℕ) → cond b (Some k) None ≡ Some at → k ≡ at
chosen true k at h = cc
chosen false k at h = absurd (cc)

not_chosen : (b : Bool) (k : ℕ) → cond b (Some k) None ≡ None → b ≡ false
not_chosen true k h = absurd (cc)
not_chosen false k h = refl

module _ (p : ℕ → Bool) (text : List ℕ) where
  place-within : position_or_len p text ≤ length text
  place-within = prefix_len-le-length (λ b. not (p b)) text

  pub place-at : (at : ℕ) → position p text ≡ Some at → at ≡ position_or_len p text
  place-at at h = sym (chosen (ltb (position_or_len p text) (length text)) (position_or_len p text) at h)

  pub at-within : (at : ℕ) → position p text ≡ Some at → at ≤ length text
  at-within at h = let e = place-at at h in let w = place-within in omega (arith, e, w)

  pub place-none : position p text ≡ None → length text ≡ position_or_len p text
  place-none h =
      let missed = not_chosen (ltb (position_or_len p text) (length text)) (position_or_len p text) h in
      let w = place-within in
      grind (arith, nat_tests)
