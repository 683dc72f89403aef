-- Sets of registers.
use Rattle.std.proofs.Common.{◌≡◌, ℕ, zero, suc, ◌^◌, ◌<◌, Bool, true, false, not, ◌&&◌, ◌||◌, refl, ap, ◌∙◌, ⊎_elim, bit_or, arith}
use Rattle.std.proofs.lemmas.Bool.{cases_eq}
use Rattle.std.proofs.lemmas.Nat.{or_comm}
use Rattle.cc_plan.specs.Knowing.{has}
use Rattle.cc_plan.specs.Translated.{is_changed_by_calls}

-- so it is of each number below one
abbrev pub each_below : (ℕ → Bool) → ℕ → Bool
each_below p zero = true
each_below p (suc n) = p n && each_below p n

and_left : (a b : Bool) → (a && b) ≡ true → a ≡ true
and_left true b e = refl
and_left false b e = e

and_right : (a b : Bool) → (a && b) ≡ true → b ≡ true
and_right true b e = e
and_right false b e = absurd (cc)

pub at_each : (p : ℕ → Bool) (n : ℕ) → each_below p n ≡ true → (k : ℕ) → k < n → p k ≡ true
at_each p zero e k small = absurd (omega (arith, small))
at_each p (suc n) e k small = ⊎_elim
    (λ same. ap p same ∙ and_left (p n) (each_below p n) e)
    (λ other. at_each p n (and_right (p n) (each_below p n) e) k (omega (arith, small, other)))
    (cases_eq k n)

-- the set of a register has it
pub has_itself : (n : ℕ) → n < 32 → has (2 ^ n) n ≡ true
has_itself n small = at_each (λ k. has (2 ^ k) k) 32 refl n small

-- what calls may change is in their set
pub has_changed : (n : ℕ) → n < 32 → is_changed_by_calls n ≡ true → has 15082782718 n ≡ true
has_changed n small changed = holds (is_changed_by_calls n) (has 15082782718 n)
    (at_each (λ k. not (is_changed_by_calls k) || has 15082782718 k) 32 refl n small) changed
  where
    holds : (a b : Bool) → (not a || b) ≡ true → a ≡ true → b ≡ true
    holds true b e h = e
    holds false b e h = absurd (cc)

-- a word with no more bits
pub or_zero : (a z : ℕ) → z ≡ 0 → bit_or a z ≡ a
or_zero a z h = ap (bit_or a) h ∙ or_comm a 0
