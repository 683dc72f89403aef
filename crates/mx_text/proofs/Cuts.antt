-- The pieces of a list between elements that pass a test, one after the other.
use Rattle.std.proofs.Common.{◌≡◌, ℕ, ◌+◌, ◌-◌, ◌<◌, ◌≤◌, Bool, true, false, cond, not, ltb, List, [], ◌∷◌, length, take, drop, Some, None, refl, ap, arith}
use Rattle.std.specs.List.{slice_split, onto_first, position, position_or_len, prefix_len}
use Rattle.std.proofs.lemmas.Bool.Decides.{nat_tests}
use Rattle.std.proofs.lemmas.List.Splits.{slice_split_first}
use Rattle.std.proofs.lemmas.Grind.{common_steps}

chosen : (b : Bool) (k at : ℕ) → cond b (Some k) None ≡ Some at → (b ≡ true) × (k ≡ at)
chosen true k at h = (refl, cc)
chosen false k at h = absurd (cc)

not_chosen : (b : Bool) (k : ℕ) → cond b (Some k) None ≡ None → b ≡ false
not_chosen true k h = absurd (cc)
not_chosen false k h = refl

module _ (p : ℕ → Bool) where
  -- the first piece of a list that has such an element
  pub pieces-first : (text : List ℕ) (at : ℕ) → position p text ≡ Some at
      → slice_split p text ≡ take at text ∷ slice_split p (take (length text - (at + 1)) (drop (at + 1) text))
  pieces-first text at h =
      let found = chosen (ltb (position_or_len p text) (length text)) (position_or_len p text) at h in
      let within : position_or_len p text < length text = grind (arith, nat_tests) in
      let whole : take (length text - (at + 1)) (drop (at + 1) text) ≡ drop (at + 1) text = grind (arith, common_steps) in
      let e : position_or_len p text ≡ at = found.1 in
      rw whole (rw e at (slice_split_first p text 0 within))

  -- no element of the list passes the test
  no_split : (text : List ℕ) → length text ≤ prefix_len (λ b. not (p b)) text → slice_split p text ≡ text ∷ []
  no_split [] h = refl
  no_split (x ∷ text) h =
      elim (p x) as (λ b. length (x ∷ text) ≤ cond (not b) (1 + prefix_len (λ b. not (p b)) text) 0
      → cond b ([] ∷ slice_split p text) (onto_first x (slice_split p text)) ≡ (x ∷ text) ∷ []) [
        | true ↦ λ k. absurd (omega arith)
        | false ↦ λ k. let shorter : length text ≤ prefix_len (λ b. not (p b)) text = omega arith in
            ap (λ parts. onto_first x parts) (no_split text shorter)
      ] h

  -- a list without such an element is one piece
  pub pieces-last : (text : List ℕ) → position p text ≡ None → slice_split p text ≡ text ∷ []
  pieces-last text h =
      let missed = not_chosen (ltb (position_or_len p text) (length text)) (position_or_len p text) h in
      no_split text (grind (arith, nat_tests))
