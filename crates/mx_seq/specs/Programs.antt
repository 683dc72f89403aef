-- What runs, as the code keeps it.
use Rattle.std.specs.Prelude.{ℕ, ◌≤◌, eqb, ◌&&◌, Bool, List, length, All, Option, Some, None, is_some, slice_get}
use Rattle.std.specs.Prelude.{Vec}
use Rattle.std.specs.Global.{Global}
use Rattle.mx_io.specs.declared.limits.TheConstants.{MAX_FILE_BYTES}
use Rattle.mx_isa.specs.declared.board.TheConstants.{MAX_STATEMENTS}
use Rattle.mx_source.specs.declared.statement.Statement.{Statement}
use Rattle.mx_source.specs.Statements.{StatementFits}
use Rattle.mx_source.specs.Meaning.{Program}

-- the instruction of a statement fits
abbrev pub Fits : Statement → Type 0
Fits = StatementFits (λ i. Unit {0})

abbrev pub few_bytes : Option (List ℕ) → Type 0
few_bytes None = Unit {0}
few_bytes (Some bytes) = length bytes ≤ MAX_FILE_BYTES

-- what runs keeps to this
pub record IsProgram (p : Program) : Type 0 where
  pub few : length p.statements ≤ MAX_STATEMENTS
  pub fit : All Fits p.statements
  pub short : few_bytes p.input

-- the bytes of an input, if there is one
abbrev pub bytes_in : Option (Vec ℕ Global) → Option (List ℕ)
bytes_in None = None
bytes_in (Some v) = Some v.items

-- the byte of an input after so many
abbrev pub byte_of : Option (List ℕ) → ℕ → Option ℕ
byte_of None taken = None
byte_of (Some bytes) taken = slice_get bytes taken

-- a load from the address takes a byte of the input
abbrev pub is_input : Program → ℕ → Bool
is_input p a = is_some p.input && eqb a p.place.input
