-- The files that a command reads, one after the other, and its answer by what they hold.
use Rattle.std.specs.Prelude.{◌≡◌, ◌++◌, ℕ, ◌<◌, ◌≤◌, ◌⊎◌, List, [], ◌∷◌, length, Result, Ok, Err, nat_lt, true, Option, Some, None, IsSomeAnd, is_some, if◌then◌else◌}
use Rattle.mx_io.specs.Counts.{Rose, RoseAbove}
use Rattle.mx_io.specs.Reads.{read_of}
use Rattle.mx_io.specs.Shelves.{Told, Counts, IsRead}
use Rattle.mx_io.specs.declared.ShelfFault.{ShelfFault}
use Rattle.mx_io.specs.declared.ShelfFault.TheVariants as fault
use Rattle.cmd_answer.specs.declared.file.FileKind.{FileKind}
use Rattle.cmd_answer.specs.declared.status.Status.TheVariants.{Done}
use Rattle.cmd_answer.specs.Files.{limit_of}
use Rattle.cmd_answer.specs.Answer.{Answer, failed_answer, too_long_answer, is_own}

pub data Protocol : Type 0 where
  -- it answers
  Answers : (answer : Answer) → Protocol
  -- it reads the file of a name, and goes on by its bytes
  Reads : (kind : FileKind) → (name : List ℕ) → (next : List ℕ → Protocol) → Protocol

-- what reading a file gives: its bytes, a fault, or more bytes than its limit
pub data Reading : Type 0 where
  Given : (bytes : List ℕ) → Reading
  Failed : Reading
  TooLong : Reading

-- the reading of a file, by what its name holds
abbrev pub reading_of : FileKind → Option (List ℕ) → Reading
reading_of kind None = Failed
reading_of kind (Some bytes) = if nat_lt (limit_of kind) (length bytes) then TooLong else Given bytes

abbrev pub answered : FileKind → Reading → (List ℕ → Answer) → Answer
answered kind (Given bytes) next = next bytes
answered kind Failed next = failed_answer kind
answered kind TooLong next = too_long_answer kind

-- the answer, by what each name holds
abbrev pub resolved : Protocol → (List ℕ → Option (List ℕ)) → Answer
resolved (Answers answer) held = answer
resolved (Reads kind name next) held = answered kind (reading_of kind (held name)) (λ bytes. resolved (next bytes) held)

-- the log grew by one read of the file, which gave this
abbrev pub IsLogged : FileKind → List ℕ → Result (List ℕ) ShelfFault → Counts → Counts → Type 0
IsLogged kind name gave before after = after.log ≡ before.log ++ read_of name (limit_of kind) gave ∷ []

-- the bytes are what the read gave, are those of the name, where that is told, and are within the limit
pub record IsGiven (shelf : Told) (kind : FileKind) (name bytes : List ℕ) (before after : Counts) : Type 0 where
  pub logged : IsLogged kind name (Ok bytes) before after
  pub within : length bytes ≤ limit_of kind
  pub exact : shelf.tells ≡ true → shelf.held name ≡ Some bytes

-- the name is told not to be there, or a fault was counted
abbrev pub IsFailed : Told → List ℕ → Counts → Counts → Type 0
IsFailed shelf name before after = Rose before.faults after.faults ⊎ ((shelf.tells ≡ true) × (shelf.held name ≡ None))

-- the name is told to hold more than the limit, or, where nothing is told, more was taken
pub record IsTooLong (shelf : Told) (kind : FileKind) (name : List ℕ) (before after : Counts) : Type 0 where
  pub told : shelf.tells ≡ true → IsSomeAnd (shelf.held name) (λ bytes. limit_of kind < length bytes)
  pub taken : RoseAbove (limit_of kind) before.taken after.taken ⊎ (shelf.tells ≡ true)

-- a fault of reading a file, and its answer
abbrev pub IsFault : Told → FileKind → List ℕ → Counts → Counts → Answer → Type 0
IsFault shelf kind name before after answer =
    ((answer ≡ failed_answer kind) × IsLogged kind name (Err fault.Failed) before after × IsFailed shelf name before after)
    ⊎ ((answer ≡ too_long_answer kind) × IsLogged kind name (Err fault.TooLong) before after × IsTooLong shelf kind name before after)

-- The command was performed: each file was read as the shelf says, and the answer is that of the last step.
abbrev pub Performed : Told → Protocol → Counts → Counts → Answer → Type 0
Performed shelf (Answers answer) before after given = (after ≡ before) × (given ≡ answer)
Performed shelf (Reads kind name next) before after given =
    (between : Counts) × IsRead before between
    × (((after ≡ between) × IsFault shelf kind name before between given)
    ⊎ ((bytes : List ℕ) × IsGiven shelf kind name bytes before between × Performed shelf (next bytes) between after given))

-- A read fault: it is the fault of a file, after one read of each file up to it, and the files before it gave bytes that ask for it. The counts
-- before a read are those after the read before it, so that no fault from before the command is its cause.
abbrev pub Faulted : Told → Protocol → Counts → Counts → Answer → Type 0
Faulted shelf (Answers answer) before after given = ⊥
Faulted shelf (Reads kind name next) before after given =
    (IsRead before after × IsFault shelf kind name before after given)
    ⊎ ((between : Counts) × IsRead before between × (bytes : List ℕ) × IsGiven shelf kind name bytes before between
    × Faulted shelf (next bytes) between after given)

-- no answer of its own is a fault outside or want of memory, and one that writes a file is done
pub record IsOwnAnswer (answer : Answer) : Type 0 where
  pub status : is_own answer.status ≡ true
  pub done : is_some answer.file ≡ true → answer.status ≡ Done

abbrev pub HasOwnAnswers : Protocol → Type 0
HasOwnAnswers (Answers answer) = IsOwnAnswer answer
HasOwnAnswers (Reads kind name next) = (bytes : List ℕ) → HasOwnAnswers (next bytes)

-- no answer writes a file
abbrev pub OnlyPrints : Protocol → Type 0
OnlyPrints (Answers answer) = answer.file ≡ None
OnlyPrints (Reads kind name next) = (bytes : List ℕ) → OnlyPrints (next bytes)
