-- How many bits of a mask are set.
use Rattle.std.proofs.Common.{◌≡◌, ◌≢◌, ℕ, zero, suc, ◌+◌, ◌-◌, ◌/◌, ◌%◌, ◌^◌, ◌<◌, ◌≤◌, min, max, Bool, true, false, cond, eqb, ltb, not, ◌&&◌, ◌||◌, bit_and, bit_or, refl, sym, ◌∙◌, ap, arith}
use Rattle.std.specs.Int.{bit_at, bit_not, w64}
use Rattle.std.specs.Int.Count.{ones, ones_step}
use Rattle.std.proofs.lemmas.Bool.Decides.{nat_tests}
use Rattle.std.proofs.lemmas.Nat.{and_le_l}
use Rattle.std.proofs.lemmas.Nat.Bits.{bit_at_lowest, bit_at-suc, bit_at-lt, bit_at_or, bit_at_and, bit_at_not, bit_at-pow_same, bit_at-pow_other, same_from_bits, same_from_bits_below, bit_at_above}
use Rattle.mx_icache.specs.LineSets.{is_set}
use Rattle.mx_icache.proofs.Bits.{is_set-zero}

-- one more bit
pub ones-more : (k a b : ℕ) → bit_at b k ≡ 1 → bit_at a k ≡ 0 → ((i : ℕ) → i ≢ k → bit_at b i ≡ bit_at a i) → ones b ≡ ones a + 1
ones-more zero a b new old others =
    let rest : b / 2 ≡ a / 2 = same_from_bits (b / 2) (a / 2) (λ i. sym (bit_at-suc b i) ∙ others (suc i) (omega arith) ∙ bit_at-suc a i) in
    let now : b % 2 ≡ 1 = sym (bit_at_lowest b) ∙ new in
    let before : a % 2 ≡ 0 = sym (bit_at_lowest a) ∙ old in
    let step : ones b ≡ b % 2 + ones (b / 2) = ones_step b in
    let was : ones a ≡ a % 2 + ones (a / 2) = ones_step a in
    let same : ones (b / 2) ≡ ones (a / 2) = ap ones rest in
    omega arith
ones-more (suc k) a b new old others =
    let rest : ones (b / 2) ≡ ones (a / 2) + 1 = ones-more k (a / 2) (b / 2) (sym (bit_at-suc b k) ∙ new) (sym (bit_at-suc a k) ∙ old)
    (λ i ne. sym (bit_at-suc b i) ∙ others (suc i) (λ e. ne (omega arith)) ∙ bit_at-suc a i) in
    let lowest : b % 2 ≡ a % 2 = sym (bit_at_lowest b) ∙ others 0 (omega arith) ∙ bit_at_lowest a in
    let step : ones b ≡ b % 2 + ones (b / 2) = ones_step b in
    let was : ones a ≡ a % 2 + ones (a / 2) = ones_step a in
    omega arith

bit_from_is_set : (a b i : ℕ) → is_set a i ≡ is_set b i → bit_at a i ≡ bit_at b i
unfolding is_set
bit_from_is_set a b i h = let one : bit_at a i < 2 = bit_at-lt a i in let other : bit_at b i < 2 = bit_at-lt b i in grind (arith, nat_tests)

-- masks with the same bits are the same
pub same_mask : (a b : ℕ) → ((i : ℕ) → is_set a i ≡ is_set b i) → a ≡ b
same_mask a b h = same_from_bits a b (λ i. bit_from_is_set a b i (h i))

pub is_set-or : (a b i : ℕ) → is_set (bit_or a b) i ≡ (is_set a i || is_set b i)
unfolding is_set
is_set-or a b i = let one : bit_at a i < 2 = bit_at-lt a i in let other : bit_at b i < 2 = bit_at-lt b i in
    let either : bit_at (bit_or a b) i ≡ max (bit_at a i) (bit_at b i) = bit_at_or a b i in grind (arith, nat_tests)

pub is_set-and : (a b i : ℕ) → is_set (bit_and a b) i ≡ (is_set a i && is_set b i)
unfolding is_set
is_set-and a b i = let one : bit_at a i < 2 = bit_at-lt a i in let other : bit_at b i < 2 = bit_at-lt b i in
    let both : bit_at (bit_and a b) i ≡ min (bit_at a i) (bit_at b i) = bit_at_and a b i in grind (arith, nat_tests)

pub is_set-pow : (k i : ℕ) → is_set (2 ^ k) i ≡ eqb k i
unfolding is_set
is_set-pow k i =
    elim (eqb k i) as (λ t. eqb k i ≡ t → eqb (bit_at (2 ^ k) i) 1 ≡ t) [
      | true ↦ λ e. let same : k ≡ i = grind (arith, nat_tests) in ap (λ b. eqb b 1) (ap (λ n. bit_at (2 ^ k) n) (sym same) ∙ bit_at-pow_same k)
      | false ↦ λ e. let other : i ≢ k = grind (arith, nat_tests) in ap (λ b. eqb b 1) (bit_at-pow_other k i other)
    ] refl

-- the bits of a mask that are not set in another of 64 bits
pub is_set-not : (n i : ℕ) → n < 2 ^ 64 → i < 64 → is_set (bit_not w64 n) i ≡ not (is_set n i)
unfolding is_set
is_set-not n i small within = let one : bit_at n i < 2 = bit_at-lt n i in
    let turned : bit_at (bit_not w64 n) i ≡ 1 - bit_at n i = bit_at_not w64 n i small within in grind (arith, nat_tests)

bit_of : (a i v : ℕ) → is_set a i ≡ eqb v 1 → v < 2 → bit_at a i ≡ v
unfolding is_set
bit_of a i v h small = let one : bit_at a i < 2 = bit_at-lt a i in grind (arith, nat_tests)

bit_from_zero : (a i : ℕ) → bit_at a i ≡ 0 → is_set a i ≡ false
unfolding is_set
bit_from_zero a i h = ap (λ b. eqb b 1) h

-- one more bit of those that count
pub ones-or : (m n k : ℕ) → ones (bit_and (bit_or m (2 ^ k)) n) ≡ ones (bit_and m n) + cond (is_set m k || not (is_set n k)) 0 1
ones-or m n k =
    elim (is_set m k) as (λ v. is_set m k ≡ v → ones (bit_and (bit_or m (2 ^ k)) n) ≡ ones (bit_and m n) + cond (v || not (is_set n k)) 0 1) [
      | true ↦ λ e. same (λ i. known i e) ∙ omega arith
      | false ↦ λ e. elim (is_set n k) as (λ v. is_set n k ≡ v → ones (bit_and (bit_or m (2 ^ k)) n) ≡ ones (bit_and m n) + cond (not v) 0 1) [
        | true ↦ λ f. ones-more k (bit_and m n) (bit_and (bit_or m (2 ^ k)) n) (bit_of (bit_and (bit_or m (2 ^ k)) n) k 1 (new e f) (omega arith))
            (bit_of (bit_and m n) k 0 (old e) (omega arith)) (λ i ne. bit_from_is_set (bit_and (bit_or m (2 ^ k)) n) (bit_and m n) i (other i ne))
        | false ↦ λ f. same (λ i. masked i f) ∙ omega arith
      ] refl
    ] refl
  where
    bits : (i : ℕ) → is_set (bit_and (bit_or m (2 ^ k)) n) i ≡ ((is_set m i || eqb k i) && is_set n i)
    bits i = is_set-and (bit_or m (2 ^ k)) n i ∙ ap (λ t. t && is_set n i) (is_set-or m (2 ^ k) i ∙ ap (λ t. is_set m i || t) (is_set-pow k i))

    same : ((i : ℕ) → ((is_set m i || eqb k i) && is_set n i) ≡ (is_set m i && is_set n i)) → ones (bit_and (bit_or m (2 ^ k)) n) ≡ ones (bit_and m n)
    same h = ap ones (same_mask (bit_and (bit_or m (2 ^ k)) n) (bit_and m n) (λ i. bits i ∙ h i ∙ sym (is_set-and m n i)))

    at : (i : ℕ) → eqb k i ≡ true → k ≡ i
    at i e = grind (arith, nat_tests)

    known : (i : ℕ) → is_set m k ≡ true → ((is_set m i || eqb k i) && is_set n i) ≡ (is_set m i && is_set n i)
    known i e = elim (eqb k i) as (λ v. eqb k i ≡ v → ((is_set m i || v) && is_set n i) ≡ (is_set m i && is_set n i)) [
      | true ↦ λ h. let here : is_set m i ≡ true = sym (ap (λ j. is_set m j) (at i h)) ∙ e in rw here refl
      | false ↦ λ h. let no : (is_set m i || false) ≡ is_set m i = grind arith in rw no refl
    ] refl

    masked : (i : ℕ) → is_set n k ≡ false → ((is_set m i || eqb k i) && is_set n i) ≡ (is_set m i && is_set n i)
    masked i e = elim (eqb k i) as (λ v. eqb k i ≡ v → ((is_set m i || v) && is_set n i) ≡ (is_set m i && is_set n i)) [
      | true ↦ λ h. let here : is_set n i ≡ false = sym (ap (λ j. is_set n j) (at i h)) ∙ e in rw here (grind arith)
      | false ↦ λ h. let no : (is_set m i || false) ≡ is_set m i = grind arith in rw no refl
    ] refl

    new : is_set m k ≡ false → is_set n k ≡ true → is_set (bit_and (bit_or m (2 ^ k)) n) k ≡ true
    new e f = let self : eqb k k ≡ true = grind (arith, nat_tests) in bits k ∙ rw (e, f, self) refl

    old : is_set m k ≡ false → is_set (bit_and m n) k ≡ false
    old e = is_set-and m n k ∙ rw e refl

    other : (i : ℕ) → i ≢ k → is_set (bit_and (bit_or m (2 ^ k)) n) i ≡ is_set (bit_and m n) i
    other i ne = let apart : eqb k i ≡ false = grind (arith, nat_tests) in let no : (is_set m i || false) ≡ is_set m i = grind arith in
        bits i ∙ rw (apart, no) (sym (is_set-and m n i))

-- where no bit is set in the other, all count
pub all_of : (a : ℕ) → a < 2 ^ 64 → bit_and a (bit_not w64 0) ≡ a
all_of a small = same_from_bits_below 64 (bit_and a (bit_not w64 0)) a (le_lt (and_le_l a (bit_not w64 0)) small) small
    (λ i below. bit_from_is_set (bit_and a (bit_not w64 0)) a i (is_set-and a (bit_not w64 0) i ∙ ap (λ t. is_set a i && t) (is_set-not 0 i (omega arith) below
    ∙ ap not (is_set-zero i)) ∙ both (is_set a i)))
  where
    le_lt : {m n : ℕ} → m ≤ n → n < 2 ^ 64 → m < 2 ^ 64
    le_lt p q = omega (arith, p, q)

    both : (b : Bool) → (b && true) ≡ b
    both true = refl
    both false = refl

-- where none of a mask's bits is new, each of them is in the other
pub none_new : (a b : ℕ) → a < 2 ^ 64 → b < 2 ^ 64 → bit_and a (bit_not w64 b) ≡ 0 → (j : ℕ) → is_set a j ≡ true → is_set b j ≡ true
none_new a b small small' none j e =
    elim (ltb j 64) as (λ t. ltb j 64 ≡ t → is_set b j ≡ true) [
      | true ↦ λ f. let below : j < 64 = grind (arith, nat_tests) in
          known (is_set b j) (ap (λ t. t && not (is_set b j)) (sym e) ∙ ap (λ t. is_set a j && t) (sym (is_set-not b j small' below))
          ∙ sym (is_set-and a (bit_not w64 b) j) ∙ ap (λ n. is_set n j) none ∙ is_set-zero j)
      | false ↦ λ f. let above : 64 ≤ j = grind (arith, nat_tests) in absurd (no_bit above)
    ] refl
  where
    known : (t : Bool) → (true && not t) ≡ false → t ≡ true
    known true h = refl
    known false h = absurd (cc)

    no_bit : 64 ≤ j → ⊥
    no_bit above = let zero_bit : bit_at a j ≡ 0 = bit_at_above a 64 j small above in
        let bad : true ≡ false = sym e ∙ bit_from_zero a j zero_bit in absurd (cc)
