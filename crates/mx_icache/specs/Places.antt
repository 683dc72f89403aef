-- The lines of a set in 8 places, and the words of each, however a cache keeps them.
use Rattle.std.specs.Prelude.{◌≡◌, ℕ, ◌+◌, ◌*◌, ◌<◌, Bool, Option, Some, List}
use Rattle.mx_icache.specs.Residency.{resident}

-- no line is in two places
abbrev pub Apart : (ℕ → Option ℕ) → Type 0
Apart line = (v w l : ℕ) → v < 8 → w < 8 → line v ≡ Some l → line w ≡ Some l → v ≡ w

-- word j of the line in a place is valid where it is resident after these fetches
abbrev pub ValidWhereResident : (ℕ → Option ℕ) → (ℕ → ℕ → Bool) → List ℕ → Type 0
ValidWhereResident line valid past = (w l j : ℕ) → w < 8 → line w ≡ Some l → j < 16 → valid w j ≡ resident past (16 * l + j)
