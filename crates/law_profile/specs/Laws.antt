-- How often the words of clean code are executed under the shipped handler, told by the machine with delay slots.
use Rattle.std.specs.Prelude.{◌≡◌, ℕ, ◌+◌, ◌<◌, List, length, Option}
use Rattle.mx_isa.specs.declared.place.Place.{Place}
use Rattle.mx_turn.specs.Handler.{shipped}
use Rattle.mx_turn.specs.OneTurn.{IsOnBoard}
use Rattle.mx_turn.specs.Program.{program_of, memory_of}
use Rattle.mx_turn.specs.Run.{run_of}
use Rattle.mx_delay.specs.Executions.{executions}
use Rattle.lab_profile.specs.Charges.{executed_at}
use Rattle.law_interrupts.specs.Laws.{user_code, IsCleanImage}

-- Whatever interrupts come, what is charged to place k of clean code as executed is how often the machine with delay slots executes the word
-- there, in as many steps as words passed.
abbrev pub ExecutedIsDelay : Type 0
ExecutedIsDelay =
    (code_words data_words : List ℕ) (input : Option (List ℕ)) (requests : List ℕ) (budget : ℕ) (p : Place)
    → IsOnBoard p
    → p.code ≡ 4096
    → let q = program_of shipped code_words data_words input in
    IsCleanImage q p budget
    → (k : ℕ)
    → k < length code_words
    → let steps = (run_of q requests budget).passed in
    executed_at q requests (length code_words) budget k ≡ executions (user_code q) p input (memory_of q) (4096 + k) steps
