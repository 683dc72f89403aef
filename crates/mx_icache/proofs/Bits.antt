-- The bits of a mask.
use Rattle.std.proofs.Common.{◌≡◌, ◌≢◌, ℕ, ◌+◌, ◌-◌, ◌*◌, ◌/◌, ◌^◌, ◌%◌, ◌<◌, ◌≤◌, Bool, true, false, eqb, ◌||◌, refl, sym, ◌∙◌, ap, arith, bit_or, ⊎_elim}
use Rattle.std.specs.Int.{bit_at, trailing_ones, w16, w32}
use Rattle.std.proofs.lemmas.Bool.{cases_lt}
use Rattle.std.proofs.Math.Nat.{div-le_self}
use Rattle.std.proofs.lemmas.Nat.{shr-shr}
use Rattle.std.proofs.lemmas.Bool.Decides.{nat_tests}
use Rattle.std.proofs.lemmas.Nat.Bits.{bit_at-zero, bit_at_above, bit_at-trailing_ones, bit_at_set_same, bit_at_set_other}
use Rattle.mx_icache.specs.LineSets.{is_set}

pub is_set-zero : (j : ℕ) → is_set 0 j ≡ false
unfolding is_set
is_set-zero j = ap (λ b. eqb b 1) (bit_at-zero j)

pub is_set-set : (m k j : ℕ) → k < 16 → is_set (bit_or m (1 * 2 ^ k % 65536)) j ≡ (eqb k j || is_set m j)
unfolding is_set
is_set-set m k j within =
    elim (eqb k j) as (λ t. eqb k j ≡ t → eqb (bit_at (bit_or m (1 * 2 ^ k % 65536)) j) 1 ≡ (t || eqb (bit_at m j) 1)) [
      | true ↦ λ e. let same : k ≡ j = grind (arith, nat_tests) in
          ap (λ b. eqb b 1) (ap (λ i. bit_at (bit_or m (1 * 2 ^ k % 65536)) i) (sym same) ∙ bit_at_set_same w16 m k within)
      | false ↦ λ e. let other : j ≢ k = grind (arith, nat_tests) in ap (λ b. eqb b 1) (bit_at_set_other w16 m k within j other)
    ] refl

-- a mask with a bit is not 0
pub is_set-some : (m j : ℕ) → is_set m j ≡ true → m ≢ 0
is_set-some m j h e = let bad : true ≡ false = sym h ∙ ap (λ n. is_set n j) e ∙ is_set-zero j in absurd (cc)

-- the bit of a mask that began as 0
pub zero_bits : (v : Bool) (j : ℕ) → (v || is_set 0 j) ≡ v
zero_bits true j = refl
zero_bits false j = is_set-zero j

-- the bits of a mask that was shifted right
shifted : (m k i : ℕ) → bit_at (m / 2 ^ k) i ≡ bit_at m (k + i)
shifted m k i = ap (λ n. n % 2) (shr-shr m k i)

-- the ones from a bit of a mask on
module _ (m k : ℕ) (small : m < 65536) where
  abbrev ones : ℕ
  ones = trailing_ones w32 (m / 2 ^ k)

  low : m / 2 ^ k + 1 < 2 ^ 32
  low = let below : m / 2 ^ k ≤ m = div-le_self m (2 ^ k) in omega (arith, below, small)

  pub ones_set : (j : ℕ) → j < ones → is_set m (k + j) ≡ true
  unfolding is_set
  ones_set j lt = ap (λ b. eqb b 1) (sym (shifted m k j) ∙ (bit_at-trailing_ones w32 (m / 2 ^ k) low).2 j lt)

  beyond : 16 - k < ones → k ≤ 16 → ⊥
  beyond lt within =
      let place : k + (16 - k) ≡ 16 = omega (arith, within) in
      let one : bit_at m 16 ≡ 1 = ap (λ i. bit_at m i) (sym place) ∙ sym (shifted m k (16 - k)) ∙ (bit_at-trailing_ones w32 (m / 2 ^ k) low).2 (16 - k) lt in
      let none : bit_at m 16 ≡ 0 = bit_at_above m 16 16 small (omega arith) in
      let bad : 1 ≡ 0 = sym one ∙ none in absurd (cc)

  pub ones_within : k < 16 → k + ones ≤ 16
  ones_within within = ⊎_elim
      (λ lt. absurd (beyond lt (omega (arith, within))))
      (λ ge. omega (arith, ge, within))
      (cases_lt (16 - k) ones)
