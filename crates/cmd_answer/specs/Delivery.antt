-- How an answer reaches the outside.
use Rattle.std.specs.Prelude.{◌≡◌, ◌++◌, ℕ, ◌⊎◌, List, take, true, is_some}
use Rattle.mx_io.specs.Counts.{Rose}
use Rattle.mx_io.specs.Shelves.{Told}
use Rattle.cmd_answer.specs.declared.status.Status.{Status}
use Rattle.cmd_answer.specs.declared.status.Status.TheVariants.{ReadFault}
use Rattle.cmd_answer.specs.Answer.{Answer, held_with, files_of, is_own}

-- the status is the answer's, all of its output was put out, its file alone was taken whole, and where the shelf tells what it
-- holds, it holds that
pub record Delivered (answer : Answer) (result : Status) (told told' : Told) (written written' : List ℕ) : Type 0 where
  pub status : result ≡ answer.status
  pub output : written' ≡ written ++ answer.output
  pub wrote : told'.wrote ≡ told.wrote ++ files_of answer.file
  pub file : told.tells ≡ true → (n : List ℕ) → told'.held n ≡ held_with answer.file told.held n

-- a prefix of the output was put out
abbrev pub PutsPrefix : Answer → List ℕ → List ℕ → Type 0
PutsPrefix answer before after = (n : ℕ) × (after ≡ before ++ take n answer.output)

-- the sink counted a fault, or the shelf did in writing the answer's file
abbrev pub FailsToWrite : Answer → ℕ → ℕ → ℕ → ℕ → Type 0
FailsToWrite answer sink_before sink_after shelf_before shelf_after =
    Rose sink_before sink_after ⊎ ((is_some answer.file ≡ true) × Rose shelf_before shelf_after)

-- the status of an answer: its own, or a read fault
abbrev pub HasStatus : Answer → Type 0
HasStatus answer = (is_own answer.status ≡ true) ⊎ (answer.status ≡ ReadFault)
