-- What a command answers.
use Rattle.std.specs.Prelude.{ℕ, List, [], ◌∷◌, ◌++◌, codes, Bool, true, false, if◌then◌else◌, Option, Some, None}
use Rattle.std.specs.Str.{bytes_eq}
use Rattle.cmd_answer.specs.declared.file.FileKind.{FileKind}
use Rattle.cmd_answer.specs.declared.status.Status.{Status}
use Rattle.cmd_answer.specs.declared.status.Status.TheVariants.{Usage, Done, ReadFault, WriteFault, Memory}
use Rattle.cmd_answer.specs.Files.{file_word}
pub use Rattle.mx_io.specs.Writes.{Written}

-- how a command ends, all that it puts out, and the file that it writes, if it writes one
pub record Answer : Type 0 where
  pub status : Status
  pub output : List ℕ
  pub file : Option Written

abbrev pub text_line : List ℕ → List ℕ
text_line text = text ++ 10 ∷ []

-- an answer that only prints
abbrev pub prints : Status → List ℕ → Answer
prints status output = record { status = status; output = output; file = None }

-- an answer that only writes a file
abbrev pub writes : List ℕ → List ℕ → Answer
writes name bytes = record { status = Done; output = []; file = Some (record { name = name; bytes = bytes }) }

-- what each name holds once the file is written
abbrev pub held_with : Option Written → (List ℕ → Option (List ℕ)) → List ℕ → Option (List ℕ)
held_with None held name = held name
held_with (Some file) held name = if bytes_eq file.name name then Some file.bytes else held name

-- the files that are written
abbrev pub files_of : Option Written → List Written
files_of None = []
files_of (Some file) = file ∷ []

-- a status that no fault outside and no want of memory gives
abbrev pub is_own : Status → Bool
is_own ReadFault = false
is_own WriteFault = false
is_own Memory = false
is_own _ = true

abbrev pub usage : Answer
usage = prints Usage (text_line (codes "usage: mx_run COMMAND WORDS"))

abbrev pub failed_answer : FileKind → Answer
failed_answer kind = prints ReadFault (text_line (codes "read fault: " ++ file_word kind ++ codes " failed"))

abbrev pub too_long_answer : FileKind → Answer
too_long_answer kind = prints ReadFault (text_line (codes "read fault: " ++ file_word kind ++ codes " too long"))
