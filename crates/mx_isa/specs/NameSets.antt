-- Sets of names as bits: bit n stands for register n, and bit 32 for MD.
use Rattle.std.specs.Prelude.{◌≡◌, ◌==◌, ℕ, Bool, true}
use Rattle.std.specs.Int.{bit_at}

-- the set has the name
unfoldable pub has_name : ℕ → ℕ → Bool
has_name bits n = bit_at bits n == 1

-- two sets have a name in common
abbrev pub SharesName : ℕ → ℕ → Type 0
SharesName x y = (n : ℕ) × (has_name x n ≡ true) × (has_name y n ≡ true)
