-- Comparisons of words without signs that are comparisons with 0.
use Rattle.std.proofs.Common.{◌≡◌, ℕ, ◌==◌, not, nat_lt, arith}
use Rattle.std.proofs.lemmas.Bool.Decides.{nat_tests}

-- only 0 is below 1
pub below_one : (a zero : ℕ) → zero ≡ 0 → (a == zero) ≡ nat_lt a 1
below_one a zero h = grind (arith, nat_tests, h)

-- all but 0 are above 0
pub above_zero : (a zero : ℕ) → zero ≡ 0 → not (a == zero) ≡ nat_lt zero a
above_zero a zero h = grind (arith, nat_tests, h)
