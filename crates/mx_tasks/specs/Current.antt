-- Which program is current in a cycle, and whose its byte is.
use Rattle.std.specs.Prelude.{◌≡◌, ℕ, zero, suc, ◌+◌, ◌%◌, eqb, Bool, cond, not, List, [], ◌++◌, option_to_list}
use Rattle.mx_turn.specs.Counted.{one}
use Rattle.mx_turn.specs.Program.{Program, answer_after}
use Rattle.mx_turn.specs.Run.{is_requested, bits, console_after}
use Rattle.law_interrupts.specs.Saves.{takes_in}
use Rattle.mx_tasks.specs.Sharing.{task_console, first_is_current}

-- the number of cycles before cycle n in which an interrupt was taken
abbrev pub taken_before : Program → List ℕ → ℕ → ℕ
taken_before q requests zero = 0
taken_before q requests (suc n) = taken_before q requests n + one (takes_in q requests n)

abbrev pub is_even : ℕ → Bool
is_even n = eqb (n % 2) 0

-- The first program is current in a cycle exactly where the number of interrupts taken before it is even, else the second.
abbrev pub CurrentIsByParity : Type 0
CurrentIsByParity = (q : Program) (requests : List ℕ) (n : ℕ) → first_is_current q requests n ≡ is_even (taken_before q requests n)

-- whether the first program (true), or the second, is current in cycle n
abbrev pub is_current : Program → List ℕ → Bool → ℕ → Bool
is_current q requests is_first n = cond is_first (first_is_current q requests n) (not (first_is_current q requests n))

-- the byte that goes out in cycle n, if one does
abbrev pub sent_in : Program → List ℕ → ℕ → List ℕ
sent_in q requests n = option_to_list (answer_after q (bits requests n) (is_requested requests n)).byte

-- Of the bytes of the machine's console, in order, each goes to the program that is current in its cycle, and not to the other.
abbrev pub BytesAreOfCurrent : Type 0
BytesAreOfCurrent =
    (q : Program) (requests : List ℕ) (n : ℕ)
    → (console_after q (bits requests (suc n)) ≡ console_after q (bits requests n) ++ sent_in q requests n)
    × ((is_first : Bool) → task_console q requests is_first (suc n)
    ≡ task_console q requests is_first n ++ cond (is_current q requests is_first n) (sent_in q requests n) [])
