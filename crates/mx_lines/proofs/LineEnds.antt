-- Where the first line of a text ends.
use Rattle.std.proofs.Common.{◌≡◌, ℕ, suc, ◌+◌, ◌<◌, List, [], ◌∷◌, length, get_or, Bool, true, false, not, cond, eqb, inl, inr, refl, arith}
use Rattle.std.specs.List.{prefix_len}
use Rattle.std.proofs.lemmas.Bool.{cases_lt}
use Rattle.std.proofs.lemmas.List.Sums.{prefix_len-le-length, prefix_len_passes, prefix_len_stops}
use Rattle.memchr.specs.Find.{Nowhere, Passes, is_byte}
use Rattle.mx_lex.specs.Lines.{line_len}

-- a byte that is no LF
goes_on : ℕ → Bool
goes_on b = not (eqb b 10)

len_cond : (ends : Bool) (n m : ℕ) → n ≡ m → cond ends 0 (suc n) ≡ cond (not ends) (1 + m) 0
len_cond true n m e = refl
len_cond false n m e = omega (arith, e)

same_len : (text : List ℕ) → line_len text ≡ prefix_len goes_on text
unfolding goes_on
same_len [] = refl
same_len (b ∷ bytes) = len_cond (eqb b 10) (line_len bytes) (prefix_len goes_on bytes) (same_len bytes)

was_true : (b : Bool) → not b ≡ false → b ≡ true
was_true true h = refl
was_true false h = cc

not_both : (b : Bool) → not b ≡ true → b ≡ true → ⊥
not_both true h k = cc
not_both false h k = cc

-- an LF stands where the front without one ends
stops : (text : List ℕ) → prefix_len goes_on text < length text → Passes (is_byte 10) text (prefix_len goes_on text)
unfolding goes_on
stops text lt = was_true (eqb (get_or text (prefix_len goes_on text) 0) 10) (prefix_len_stops goes_on text 0 lt)

-- none stands before it
passes : (text : List ℕ) (k : ℕ) → k < prefix_len goes_on text → Passes (is_byte 10) text k → ⊥
unfolding goes_on
passes text k lt here = not_both (eqb (get_or text k 0) 10) (prefix_len_passes goes_on text k 0 lt) here

pub ends_at : (text : List ℕ) (k : ℕ) → k < length text → Passes (is_byte 10) text k → Nowhere (Passes (is_byte 10) text) 0 k → k ≡ line_len text
ends_at text k lt here none =
    elim (cases_lt (prefix_len goes_on text) k) [
      | inl before ↦ absurd (none (prefix_len goes_on text) (omega arith) before (stops text (omega (arith, before, lt))))
      | inr after ↦ elim (cases_lt k (prefix_len goes_on text)) [
        | inl past ↦ absurd (passes text k past here)
        | inr le ↦ omega (arith, same_len text, after, le)
      ]
    ]

pub ends_nowhere : (text : List ℕ) → Nowhere (Passes (is_byte 10) text) 0 (length text) → length text ≡ line_len text
ends_nowhere text none =
    elim (cases_lt (prefix_len goes_on text) (length text)) [
      | inl before ↦ absurd (none (prefix_len goes_on text) (omega arith) before (stops text before))
      | inr le ↦ omega (arith, same_len text, le, prefix_len-le-length goes_on text)
    ]
