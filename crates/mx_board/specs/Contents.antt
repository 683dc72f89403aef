-- What a board holds.
use Rattle.std.specs.Prelude.{◌≡◌, ◌≤◌, ℕ, List, length, slice_index, Option, Some, None}
use Rattle.std.specs.Borrow.{Bor}
use Rattle.std.specs.Option.{option_copied}
use Rattle.mx_isa.specs.declared.board.TheConstants.{DATA_END, CONSOLE}
use Rattle.mx_io.specs.declared.limits.TheConstants.{MAX_FILE_BYTES}

-- what a board holds: its words, the input if there is one, and the number of input bytes taken
pub record Contents : Type 0 where
  pub words : List ℕ
  pub input : Option (List ℕ)
  pub taken : ℕ

-- the number of bytes of an input
abbrev pub bytes_in : Option (List ℕ) → ℕ
bytes_in None = 0
bytes_in (Some bytes) = length bytes

-- what may be given to a program: no input, or one of at most 1,048,576 bytes
abbrev pub IsInput : Option (Bor (List ℕ)) → Type 0
IsInput input = bytes_in (option_copied input) ≤ MAX_FILE_BYTES

-- what holds of every board: 65,536 words, of which the console is 0, and at most 1,048,576 input bytes, of which no more are taken
pub record IsBoard (b : Contents) : Type 0 where
  pub count : length b.words ≡ DATA_END
  pub console : slice_index b.words CONSOLE ≡ 0
  pub bytes : bytes_in b.input ≤ MAX_FILE_BYTES
  pub taken : b.taken ≤ bytes_in b.input
