-- Steps that are known by numbers, over any state: a list in which any two numbers that stand out of order may change places
-- does what the numbers in order do.
use Rattle.std.proofs.Common.{◌≡◌, ℕ, zero, suc, ◌+◌, ◌<◌, ◌≤◌, cond, leb, ltb, ◌&&◌, List, [], ◌∷◌, ◌++◌, length, length-append, refl, sym, ap, ◌∙◌, subst, arith, ⊎_elim}
use Rattle.std.proofs.lemmas.Bool.{cases_eq}
use Rattle.std.proofs.lemmas.Bool.Decides.{nat_tests}
use Rattle.mx_blocks.specs.Items.{times}

-- each number from `low` on and below `low + n` stands once, and no other
abbrev pub OnceEach : ℕ → ℕ → List ℕ → Type 0
OnceEach low n ks = (j : ℕ) → times j ks ≡ cond (leb low j && ltb j (low + n)) 1 0

-- each later number that is lower may change places with this one
abbrev pub FreeOf : (ℕ → ℕ → Type 0) → ℕ → List ℕ → Type 0
FreeOf Free k [] = Unit {0}
FreeOf Free k (j ∷ js) = (j < k → Free j k) × FreeOf Free k js

-- any two numbers that stand in the opposite order may change places
abbrev pub FreeInversions : (ℕ → ℕ → Type 0) → List ℕ → Type 0
FreeInversions Free [] = Unit {0}
FreeInversions Free (k ∷ ks) = FreeOf Free k ks × FreeInversions Free ks

-- n numbers from `low` on
abbrev pub from_to : ℕ → ℕ → List ℕ
from_to low zero = []
from_to low (suc n) = low ∷ from_to (suc low) n

-- the steps of these numbers, one after another
abbrev pub run : {S : Type 0} → (ℕ → S → S) → List ℕ → S → S
run step [] s = s
run step (k ∷ ks) s = run step ks (step k s)

pub times_append : (j : ℕ) (xs ys : List ℕ) → times j (xs ++ ys) ≡ times j xs + times j ys
times_append j [] ys = omega arith
times_append j (a ∷ xs) ys = grind (arith, nat_tests, times_append j xs ys)

-- where a number stands
record Split (k : ℕ) (ks : List ℕ) : Type 0 where
  before : List ℕ
  behind : List ℕ
  is : ks ≡ before ++ k ∷ behind

split : (k : ℕ) (ks : List ℕ) → 0 < times k ks → Split k ks
split k [] h = absurd (omega arith)
split k (j ∷ ks) h = ⊎_elim
    (λ e. record { before = []; behind = ks; is = ap (λ n. n ∷ ks) (sym e) })
    (λ ne. let s = split k ks (grind (arith, nat_tests)) in record { before = j ∷ s.before; behind = s.behind; is = ap (λ l. j ∷ l) s.is })
    (cases_eq k j)

free_of_rest : (Free : ℕ → ℕ → Type 0) (k j : ℕ) (xs ys : List ℕ) → FreeOf Free k (xs ++ j ∷ ys) → FreeOf Free k (xs ++ ys)
free_of_rest Free k j [] ys h = h.1
free_of_rest Free k j (a ∷ xs) ys h = (h.0, free_of_rest Free k j xs ys h.1)

free_rest : (Free : ℕ → ℕ → Type 0) (k : ℕ) (xs ys : List ℕ) → FreeInversions Free (xs ++ k ∷ ys) → FreeInversions Free (xs ++ ys)
free_rest Free k [] ys h = h.1
free_rest Free k (a ∷ xs) ys h = (free_of_rest Free a k xs ys h.0, free_rest Free k xs ys h.1)

free_at : (Free : ℕ → ℕ → Type 0) (a k : ℕ) (xs ys : List ℕ) → FreeOf Free a (xs ++ k ∷ ys) → k < a → Free k a
free_at Free a k [] ys h l = h.0 l
free_at Free a k (b ∷ xs) ys h l = free_at Free a k xs ys h.1 l

module _ {S : Type 0} (step : ℕ → S → S) (Free : ℕ → ℕ → Type 0)
    (swap : (a b : ℕ) (s : S) → Free a b → step b (step a s) ≡ step a (step b s)) where
  -- every number before k is greater, so k may come first
  to_front : (k : ℕ) (xs ys : List ℕ) (s : S) → FreeInversions Free (xs ++ k ∷ ys) → ((j : ℕ) → 0 < times j xs → k < j)
      → run step (xs ++ k ∷ ys) s ≡ run step (xs ++ ys) (step k s)
  to_front k [] ys s f h = refl
  to_front k (a ∷ xs) ys s f h =
      to_front k xs ys (step a s) f.1 (λ j p. h j (grind (arith, nat_tests)))
      ∙ ap (run step (xs ++ ys)) (sym (swap k a s (free_at Free a k xs ys f.0 (h a (grind (arith, nat_tests))))))

  pub run_in_order : (n low : ℕ) (ks : List ℕ) (s : S) → OnceEach low n ks → FreeInversions Free ks → run step ks s ≡ run step (from_to low n) s
  run_in_order zero low [] s o f = refl
  run_in_order zero low (k ∷ ks) s o f = absurd (grind (arith, nat_tests, o k))
  run_in_order (suc n) low ks s o f =
      let p = split low ks (grind (arith, nat_tests, o low)) in
      let count : (j : ℕ) → times j ks ≡ times j p.before + times j (low ∷ p.behind) = λ j. ap (times j) p.is
      ∙ times_append j p.before (low ∷ p.behind) in
      let free : FreeInversions Free (p.before ++ low ∷ p.behind) = subst (FreeInversions Free) p.is f in
      ap (λ l. run step l s) p.is
      ∙ to_front low p.before p.behind s free (λ j q. grind (arith, nat_tests, o j, count j, count low, o low))
      ∙ run_in_order n (suc low) (p.before ++ p.behind) (step low s) (λ j. grind (arith, nat_tests, o j, count j, times_append j p.before p.behind))
      (free_rest Free low p.before p.behind free)

-- a list in which n numbers stand is at least so long
pub once_length : (n low : ℕ) (ks : List ℕ) → OnceEach low n ks → n ≤ length ks
once_length zero low ks o = omega arith
once_length (suc n) low ks o =
    let p = split low ks (grind (arith, nat_tests, o low)) in
    let count : (j : ℕ) → times j ks ≡ times j p.before + times j (low ∷ p.behind) = λ j. ap (times j) p.is
    ∙ times_append j p.before (low ∷ p.behind) in
    let more : n ≤ length (p.before ++ p.behind) = once_length n (suc low) (p.before ++ p.behind)
    (λ j. grind (arith, nat_tests, o j, count j, times_append j p.before p.behind)) in
    let a : length ks ≡ length p.before + suc (length p.behind) = ap length p.is ∙ length-append p.before (low ∷ p.behind) in
    let b : length (p.before ++ p.behind) ≡ length p.before + length p.behind = length-append p.before p.behind in
    omega arith
