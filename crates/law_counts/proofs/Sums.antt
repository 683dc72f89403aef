-- The sum over the words of a statement, of how often each is executed, is how many steps execute any of them (`all_executed`).
use Rattle.std.proofs.Common.{◌≡◌, ℕ, zero, suc, ◌+◌, ◌-◌, ◌<◌, ◌≤◌, Bool, true, false, cond, eqb, leb, not, ◌&&◌, List, [], ◌∷◌, slice_index_or, refl, ap, ◌∙◌, arith, ⊎_elim}
use Rattle.std.proofs.lemmas.Bool.{cases_lt}
use Rattle.std.proofs.lemmas.Bool.Decides.{nat_tests}
use Rattle.mx_delay.specs.Delay.{Delay}
use Rattle.mx_link.specs.declared.linked.Origin.{Origin}
use Rattle.mx_link.specs.declared.linked.Origin.TheVariants.{Pad}
use Rattle.law_link.specs.Runs.{Linking, linked_run}
use Rattle.mx_delay.specs.Executions.{executes}
use Rattle.mx_link.specs.Gathered.{is_of, gathered}
use Rattle.law_counts.specs.Counts.{executed}
use Rattle.law_counts.proofs.Tally.{one, hits}
use Rattle.law_counts.proofs.Marks.{is_word_of}

nothing : (b : Bool) (n : ℕ) → n ≡ 0 → cond b n 0 ≡ 0
nothing true n e = e
nothing false n e = refl

-- how many words of statement q have an address, of words with these origins that stand from a base on, where two conditions hold
abbrev words_if : Bool → Bool → ℕ → ℕ → ℕ → List Origin → ℕ
words_if u v x q a [] = 0
words_if u v x q a (o ∷ os) = cond (is_of q o) (one (u && (v && eqb x a))) 0 + words_if u v x q (suc a) os

-- how many of them a step executes
abbrev words_hit : ℕ → ℕ → List Origin → Delay → ℕ
words_hit q a os s = words_if (not s.halted) (not s.first.squashed) s.first.address q a os

-- how many of these have an address
abbrev words_at : ℕ → ℕ → List Origin → ℕ → ℕ
words_at q a [] x = 0
words_at q a (o ∷ os) x = cond (is_of q o) (one (eqb x a)) 0 + words_at q (suc a) os x

one_word : (q a : ℕ) (os : List Origin) (x : ℕ) → words_at q a os x ≡ one (is_word_of a os q x)
one_word q a [] x = by_side (leb a x)
  where
    by_side : (b : Bool) → 0 ≡ one (cond b false false)
    by_side true = refl
    by_side false = refl
one_word q a (o ∷ os) x =
    let rest = one_word q (suc a) os x in
    ⊎_elim
    (λ (below : x < a).
    let not_here : eqb x a ≡ false = grind (arith, nat_tests) in
    let not_behind : leb (suc a) x ≡ false = grind (arith, nat_tests) in
    let not_from : leb a x ≡ false = grind (arith, nat_tests) in
    let here = ap (λ b. cond (is_of q o) (one b) 0) not_here ∙ nothing (is_of q o) 0 refl in
    let behind = ap (λ b. one (cond b (is_of q (slice_index_or os (x - suc a) Pad)) false)) not_behind in
    let whole = ap (λ b. one (cond b (is_of q (slice_index_or (o ∷ os) (x - a) Pad)) false)) not_from in
    omega arith)
    (λ (from : a ≤ x). ⊎_elim
    (λ (above : a < x).
    let not_here : eqb x a ≡ false = grind (arith, nat_tests) in
    let is_behind : leb (suc a) x ≡ true = grind (arith, nat_tests) in
    let is_from : leb a x ≡ true = grind (arith, nat_tests) in
    let on : x - a ≡ suc (x - suc a) = omega arith in
    let here = ap (λ b. cond (is_of q o) (one b) 0) not_here ∙ nothing (is_of q o) 0 refl in
    let behind = ap (λ b. one (cond b (is_of q (slice_index_or os (x - suc a) Pad)) false)) is_behind in
    let whole = ap (λ b. one (cond b (is_of q (slice_index_or (o ∷ os) (x - a) Pad)) false)) is_from
    ∙ ap (λ k. one (is_of q (slice_index_or (o ∷ os) k Pad))) on in
    omega arith)
    (λ (most : x ≤ a).
    let is_here : eqb x a ≡ true = grind (arith, nat_tests) in
    let not_behind : leb (suc a) x ≡ false = grind (arith, nat_tests) in
    let is_from : leb a x ≡ true = grind (arith, nat_tests) in
    let on : x - a ≡ 0 = omega arith in
    let here = ap (λ b. cond (is_of q o) (one b) 0) is_here in
    let behind = ap (λ b. one (cond b (is_of q (slice_index_or os (x - suc a) Pad)) false)) not_behind in
    let whole = ap (λ b. one (cond b (is_of q (slice_index_or (o ∷ os) (x - a) Pad)) false)) is_from
    ∙ ap (λ k. one (is_of q (slice_index_or (o ∷ os) k Pad))) on in
    omega arith)
    (cases_lt a x))
    (cases_lt x a)

by_state : (u v : Bool) (x q a : ℕ) (os : List Origin) → words_if u v x q a os ≡ cond (u && v) (words_at q a os x) 0
by_state true true x q a [] = refl
by_state true false x q a [] = refl
by_state false v x q a [] = refl
by_state true true x q a (o ∷ os) = let rest = by_state true true x q (suc a) os in omega arith
by_state true false x q a (o ∷ os) = let rest = by_state true false x q (suc a) os in let z = nothing (is_of q o) 0 refl in omega arith
by_state false v x q a (o ∷ os) = let rest = by_state false v x q (suc a) os in let z = nothing (is_of q o) 0 refl in omega arith

-- a live step executes the word at its address, another one none
one_hit : (q a : ℕ) (os : List Origin) (s : Delay) → words_hit q a os s ≡ one (hits (is_word_of a os q) s)
one_hit q a os s =
    by_state (not s.halted) (not s.first.squashed) s.first.address q a os
    ∙ by_test (not s.halted) (not s.first.squashed) (is_word_of a os q s.first.address) (words_at q a os s.first.address) (one_word q a os s.first.address)
  where
    by_test : (u v w : Bool) (k : ℕ) → k ≡ one w → cond (u && v) k 0 ≡ one (u && (v && w))
    by_test true true w k e = e
    by_test true false w k e = refl
    by_test false v w k e = refl

module _ (l : Linking) (q : ℕ) where
  none_yet : (a : ℕ) (os : List Origin) → gathered (executed l 0) q a os ≡ 0
  none_yet a [] = refl
  none_yet a (o ∷ os) = let rest = none_yet (suc a) os in let z = nothing (is_of q o) 0 refl in omega arith

  one_step : (j a : ℕ) (os : List Origin) → gathered (executed l (suc j)) q a os ≡ gathered (executed l j) q a os + words_hit q a os (linked_run l j)
  one_step j a [] = refl
  one_step j a (o ∷ os) =
      let rest = one_step j (suc a) os in
      let e = apart (is_of q o) (executed l j a) (one (executes a (linked_run l j))) in
      omega arith
    where
      apart : (b : Bool) (m n : ℕ) → cond b (m + n) 0 ≡ cond b m 0 + cond b n 0
      apart true m n = refl
      apart false m n = omega arith

  -- how many of the first j steps execute a word of the statement
  abbrev pub steps_hit : ℕ → List Origin → ℕ → ℕ
  steps_hit a os zero = 0
  steps_hit a os (suc j) = steps_hit a os j + one (hits (is_word_of a os q) (linked_run l j))

  pub all_executed : (a : ℕ) (os : List Origin) (j : ℕ) → gathered (executed l j) q a os ≡ steps_hit a os j
  all_executed a os zero = none_yet a os
  all_executed a os (suc j) =
      let h = all_executed a os j in
      let e = one_step j a os in
      let one_is = one_hit q a os (linked_run l j) in
      omega arith
