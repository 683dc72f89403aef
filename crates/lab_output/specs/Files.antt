-- The file that an answer goes to, and the lines for standard error.
use Rattle.std.specs.Prelude.{◌≡◌, ◌++◌, ◌⊎◌, ℕ, List, [], Option, Some, None, codes}
use Rattle.lab_output.specs.declared.outcome.Destination.{Destination}
use Rattle.lab_output.specs.declared.outcome.Destination.TheVariants.{Errors, Output, File}

-- its name, if it goes to one
abbrev pub file_named : Destination → Option (List ℕ)
file_named Errors = None
file_named Output = None
file_named (File name) = Some name.now

-- the line of an error: its text, and the name that it is about
abbrev pub error_line : List ℕ → List ℕ → List ℕ
error_line text name = text ++ name ++ codes "\n"

-- the line, or nothing where there was no memory for it
abbrev pub IsLine : List ℕ → List ℕ → List ℕ → Type 0
IsLine text name errors = (errors ≡ []) ⊎ (errors ≡ error_line text name)

-- what standard error gets about a file that could not be written
abbrev pub IsFileError : List ℕ → List ℕ → Type 0
IsFileError name errors = IsLine (codes "cannot be written: ") name errors ⊎ IsLine (codes "no memory") [] errors
