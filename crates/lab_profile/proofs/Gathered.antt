-- What is gathered of the words of a code, one word after the other.
use Rattle.std.proofs.Common.{◌≡◌, ℕ, suc, ◌+◌, ◌<◌, ◌≤◌, cond, List, length, drop, ap, ◌∙◌, arith}
use Rattle.std.specs.Prelude.{slice_index_or}
use Rattle.std.proofs.lemmas.List.{at_drop_more, drop_all}
use Rattle.mx_link.specs.declared.linked.Origin.{Origin}
use Rattle.mx_link.specs.Gathered.{is_of, gathered}
use Rattle.lab_profile.specs.declared.lines.LineCost.{LineCost}
use Rattle.lab_profile.specs.Lines.{saturated}

module _ (number_of : List LineCost → ℕ → ℕ) (count : ℕ → ℕ) (i : ℕ) (origins : List Origin) where
  -- a number in the cost of statement i, and what the words from number k on add to it, make what all words do
  abbrev pub Gathers : ℕ → List LineCost → Type 0
  Gathers k costs = (n : ℕ) × (number_of costs i ≡ saturated n) × (n + gathered count i k (drop k origins) ≡ gathered count i 0 origins)

  pub gathers_more : (k n : ℕ) (d : Origin) (costs : List LineCost) → k < length origins
      → number_of costs i ≡ saturated (n + cond (is_of i (slice_index_or origins k d)) (count k) 0)
      → n + gathered count i k (drop k origins) ≡ gathered count i 0 origins → Gathers (k + 1) costs
  gathers_more k n d costs h e f =
      let w = cond (is_of i (slice_index_or origins k d)) (count k) 0 in
      let rest = drop (k + 1) origins in
      let more =
      at_drop_more (gathered count i k) origins k d h
      ∙ ap (λ m. w + gathered count i m rest) (let m : suc k ≡ k + 1 = omega arith in m) in
      (n + w, e, omega (arith, f, more))

  pub gathers_all : (k : ℕ) (costs : List LineCost) → length origins ≤ k → Gathers k costs → number_of costs i ≡ saturated (gathered count i 0 origins)
  gathers_all k costs h (n, e, f) =
      let none = ap (gathered count i k) (drop_all k origins h) in
      e ∙ ap saturated (let m : n ≡ gathered count i 0 origins = omega (arith, f, none) in m)
