-- Registers of MIPS-I.
use Rattle.std.specs.Prelude.{ℕ, ◌<◌, ◌≢◌, ◌⊎◌}

-- a register that a program may name: 0, 2 to 21, and 29 to 31
abbrev pub IsTaken : ℕ → Type 0
IsTaken n = (n < 32) × ((n ≢ 1) × ((n < 22) ⊎ (28 < n)))
