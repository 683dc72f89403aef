-- What the named files give a run: its interrupt requests, then its input.
use Rattle.std.specs.Prelude.{◌≡◌, ◌⊎◌, ℕ, List, [], Option, Some, None, IfSome, Ok, Err}
use Rattle.mx_io.specs.Shelves.{Told, Counts}
use Rattle.mx_board.specs.RequestFile.{requests_of}
use Rattle.mx_board.specs.declared.requests.EventError.{EventError}
use Rattle.mx_board.specs.declared.requests.EventError.TheVariants as errors
use Rattle.lab_failure.specs.declared.failure.LabFile.{LabFile}
use Rattle.lab_failure.specs.declared.failure.LabFile.TheVariants.{Interrupts, Input}
use Rattle.lab_failure.specs.declared.failure.LabFailure.{LabFailure}
use Rattle.lab_failure.specs.declared.failure.LabFailure.TheVariants.{Memory, Line}
use Rattle.lab_failure.specs.declared.failure.LineFault.{LineFault}
use Rattle.lab_failure.specs.declared.failure.LineFault.TheVariants as faults
use Rattle.lab_failure.specs.Files.{IsReadAs, IsUnread}
use Rattle.lab_sources.specs.declared.stimulus.Stimulus.{Stimulus}

-- the file of this name was read and gave these bytes; nothing was read where none is named, and there are no bytes
abbrev pub IsReadIf : Told → LabFile → Option (List ℕ) → List ℕ → Counts → Counts → Type 0
IsReadIf told kind None bytes before after = (bytes ≡ []) × (after ≡ before)
IsReadIf told kind (Some name) bytes before after = IsReadAs told kind name bytes before after

-- the interrupt file was read, which spells the requests, then the input
pub record AreGiven (told : Told) (interrupts input : Option (List ℕ)) (before after : Counts) (stimulus : Stimulus) : Type 0 where
  pub between : Counts
  pub read : IsReadIf told Interrupts interrupts stimulus.cycles.items before between
  pub spelled : requests_of stimulus.cycles.items ≡ Ok stimulus.requests
  pub input_read : IsReadIf told Input input stimulus.input.items between after

-- the named file was read once, and the failure tells how that failed
abbrev pub IsUnreadIf : LabFile → Option (List ℕ) → Counts → Counts → LabFailure → Type 0
IsUnreadIf kind None before after failure = ⊥
IsUnreadIf kind (Some name) before after failure = IsUnread kind name before after failure

-- the error of an interrupt file that a fault of a line tells
abbrev pub error_of : ℕ → LineFault → Option EventError
error_of line faults.BadCycle = Some (errors.BadLine line)
error_of line faults.TooManyCycles = Some (errors.TooMany line)
error_of line faults.NotAscending = Some (errors.NotAscending line)
error_of line _ = None

-- the failure names the interrupt file and tells this error of it
abbrev pub TellsError : List ℕ → EventError → LabFailure → Type 0
TellsError name error (Line n line fault) = (n.now ≡ name) × (error_of line fault ≡ Some error)
TellsError name error Memory = error ≡ errors.Memory
TellsError name error _ = ⊥

-- the failure names the interrupt file and its first faulty line, or memory ran out
abbrev pub IsFaultyFile : List ℕ → List ℕ → LabFailure → Type 0
IsFaultyFile name bytes (Line n line fault) =
    (n.now ≡ name) × (error : EventError) × (error_of line fault ≡ Some error) × (requests_of bytes ≡ Err error)
IsFaultyFile name bytes Memory = Unit {0}
IsFaultyFile name bytes _ = ⊥

-- the failure tells why the interrupt file was not read, or which of its lines is faulty; or the input was not read after it
abbrev pub IsNoStimulus : Told → Option (List ℕ) → Option (List ℕ) → Counts → Counts → LabFailure → Type 0
IsNoStimulus told interrupts input before after failure =
    IsUnreadIf Interrupts interrupts before after failure
    ⊎ (((bytes : List ℕ) × (name : List ℕ) × IfSome interrupts (λ n. n ≡ name) × IsReadIf told Interrupts interrupts bytes before after
    × IsFaultyFile name bytes failure)
    ⊎ ((bytes : List ℕ) × (requests : List ℕ) × (between : Counts) × IsReadIf told Interrupts interrupts bytes before between
    × (requests_of bytes ≡ Ok requests) × IsUnreadIf Input input between after failure))
