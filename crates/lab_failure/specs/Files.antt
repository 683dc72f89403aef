-- Files that a command reads by its arguments.
use Rattle.std.specs.Prelude.{◌≡◌, ◌++◌, ◌≤◌, ◌∷◌, ℕ, List, [], Option, Some, Result, Ok, Err, codes, length, true, if◌then◌else◌}
use Rattle.std.specs.Str.{bytes_eq}
use Rattle.mx_io.specs.Reads.{read_of}
use Rattle.mx_io.specs.Shelves.{Told, Counts}
use Rattle.mx_io.specs.declared.ShelfFault.{ShelfFault}
use Rattle.mx_io.specs.declared.ShelfFault.TheVariants as shelf
use Rattle.lab_failure.specs.declared.failure.LabFile.{LabFile}
use Rattle.lab_failure.specs.declared.failure.ReadFault.{ReadFault}
use Rattle.lab_failure.specs.declared.failure.ReadFault.TheVariants as fault
use Rattle.lab_failure.specs.declared.failure.LabFailure.{LabFailure}
use Rattle.lab_failure.specs.declared.failure.LabFailure.TheVariants.{Memory, Unread}
use Rattle.lab_failure.specs.Failures.{limit_of}

-- the file that an argument names: - is standard input
abbrev pub file_of : List ℕ → List ℕ
file_of word = if bytes_eq word (codes "-") then codes "/dev/stdin" else word

-- the log grew by one read of the named file, which gave this
abbrev pub IsLogged : LabFile → List ℕ → Result (List ℕ) ShelfFault → Counts → Counts → Type 0
IsLogged kind name gave before after = after.log ≡ before.log ++ read_of (file_of name) (limit_of kind) gave ∷ []

-- the named file was read once and gave these bytes: no more than its kind may have, and those of the file, where that is told
pub record IsReadAs (told : Told) (kind : LabFile) (name bytes : List ℕ) (before after : Counts) : Type 0 where
  pub logged : IsLogged kind name (Ok bytes) before after
  pub within : length bytes ≤ limit_of kind
  pub exact : told.tells ≡ true → told.held (file_of name) ≡ Some bytes

-- how the read of a file failed
abbrev pub shelf_fault : ReadFault → ShelfFault
shelf_fault fault.Failed = shelf.Failed
shelf_fault fault.TooLong = shelf.TooLong

-- the failure names the file that was read once and gave this fault, or memory ran out
abbrev pub IsUnread : LabFile → List ℕ → Counts → Counts → LabFailure → Type 0
IsUnread kind name before after (Unread n k fault) =
    (n.now ≡ name) × (k ≡ kind) × IsLogged kind name (Err (shelf_fault fault)) before after
IsUnread kind name before after Memory = Unit {0}
IsUnread kind name before after _ = ⊥
