-- Values up to a greatest one.
use Rattle.std.proofs.Common.{◌≡◌, ℕ, ◌+◌, ◌*◌, ◌≤◌, refl, inl, inr, arith}
use Rattle.std.specs.Prelude.{min}
use Rattle.std.proofs.lemmas.Bool.{cases_lt}
use Rattle.std.proofs.Math.Nat.{mul-le-mul_right, mul-le-mul_left}

-- a digit more, when the value so far was cut
pub capped_more : (v b d most : ℕ) → 1 ≤ b → min (min v most * b + d) most ≡ min (v * b + d) most
capped_more v b d most h =
    elim (cases_lt v most) [
      | inl lt ↦ let e : min v most ≡ v = omega arith in rw e refl
      | inr le ↦ let e : min v most ≡ most = omega arith in rw e (omega (arith, mul-le-mul_right b le, mul-le-mul_left most h))
    ]
