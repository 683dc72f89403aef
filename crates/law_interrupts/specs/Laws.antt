-- What the machine with interrupts does on clean code, under the shipped handler, told by the machine with delay slots.
use Rattle.std.specs.Prelude.{◌≡◌, ℕ, ◌+◌, ◌*◌, ◌%◌, ◌^◌, ◌≤◌, true, ◌⊎◌, List, [], length, Option}
use Rattle.mx_isa.specs.declared.board.TheConstants.{CODE_BASE}
use Rattle.mx_isa.specs.declared.place.Place.{Place}
use Rattle.mx_code.specs.Decoding.{inst_of}
use Rattle.mx_delay.specs.Delay.{Code, Delay, code_from, delay}
use Rattle.mx_delay.specs.Clean.{is_inside, IsClean}
use Rattle.mx_turn.specs.OneTurn.{UserSame, IsOnBoard}
use Rattle.mx_turn.specs.Program.{Program, program_of, memory_of}
use Rattle.mx_turn.specs.Run.{MachineRun, run_of}
use Rattle.mx_turn.specs.Handler.{shipped}

-- registers, MD, user data and the number of input bytes taken are equal, and system word 0 counts the interrupts taken
pub record EndsAs (p : Place) (run : MachineRun) (d : Delay) : Type 0 where
  pub regs : run.last.core.regs ≡ d.core.regs
  pub md : run.last.core.md ≡ d.core.md
  pub mem : UserSame p run.last.core.mem d.core.mem
  pub taken : run.last.core.taken ≡ d.core.taken
  pub counted : run.last.core.mem 0 ≡ run.counts.interrupts % 2 ^ 32

-- the run has the console, it halted or not alike, and where it halted the end is the same
pub record RunsAs (p : Place) (run : MachineRun) (d : Delay) : Type 0 where
  pub console : run.console ≡ d.console
  pub halted : run.halted ≡ d.halted
  pub ends : run.halted ≡ true → EndsAs p run d

-- A program's own code, from 4096 on
abbrev pub user_code : Program → Code
user_code q = code_from inst_of CODE_BASE q.user_words

-- The program's code at a place, with the data words that its run begins with, is clean for n steps.
abbrev pub IsCleanImage : Program → Place → ℕ → Type 0
IsCleanImage q p n = IsClean (user_code q) (is_inside p (length q.user_words)) p q.input (memory_of q) n

-- the machine with delay slots after n steps of it
abbrev pub delay_of : Program → Place → ℕ → Delay
delay_of q p n = delay (user_code q) p q.input (memory_of q) n

-- Whatever interrupts come, the run of clean code does what the machine with delay slots does in as many steps as words passed.
abbrev pub RunIsDelay : Type 0
RunIsDelay =
    (code_words data_words : List ℕ) (input : Option (List ℕ)) (requests : List ℕ) (budget : ℕ) (p : Place)
    → IsOnBoard p
    → p.code ≡ CODE_BASE
    → let q = program_of shipped code_words data_words input in
    IsCleanImage q p budget
    → let run = run_of q requests budget in
    RunsAs p run (delay_of q p run.passed)

-- Each request is taken once at most; and each word has passed, or the run halted, once the budget has three cycles for each word, three more
-- for the first turns, and 78 for each request, an interrupt being 26 turns.
abbrev pub RunGetsOn : Type 0
RunGetsOn =
    (code_words data_words : List ℕ) (input : Option (List ℕ)) (requests : List ℕ) (budget : ℕ) (p : Place)
    → IsOnBoard p
    → p.code ≡ CODE_BASE
    → let q = program_of shipped code_words data_words input in
    IsCleanImage q p budget
    → let run = run_of q requests budget in
    (run.counts.interrupts ≤ length requests)
    × ((w : ℕ) → 3 * (w + 3) + 78 * length requests ≤ budget → (w ≤ run.passed) ⊎ (run.halted ≡ true))

-- Without requests it is so whatever handler stands below: no word of it takes effect.
abbrev pub UndisturbedRunIsDelay : Type 0
UndisturbedRunIsDelay =
    (q : Program) (budget : ℕ) (p : Place)
    → IsOnBoard p
    → p.code ≡ CODE_BASE
    → IsCleanImage q p budget
    → let run = run_of q [] budget in
    RunsAs p run (delay_of q p run.passed)

-- And three cycles for each word and three more words are enough.
abbrev pub UndisturbedRunGetsOn : Type 0
UndisturbedRunGetsOn =
    (q : Program) (budget : ℕ) (p : Place)
    → IsOnBoard p
    → p.code ≡ CODE_BASE
    → IsCleanImage q p budget
    → let run = run_of q [] budget in
    (w : ℕ) → 3 * (w + 3) ≤ budget → (w ≤ run.passed) ⊎ (run.halted ≡ true)
