-- What an interrupt saves of clean code, and what the shipped handler gives back.
use Rattle.std.specs.Prelude.{◌≡◌, ℕ, suc, ◌+◌, ◌%◌, ◌^◌, ◌<◌, Bool, true, false, List, Option}
use Rattle.mx_isa.specs.declared.board.TheConstants.{CODE_BASE}
use Rattle.mx_isa.specs.declared.place.Place.{Place}
use Rattle.mx_delay.specs.Delay.{Delay}
use Rattle.mx_pcchain.specs.Chain.{chain_of}
use Rattle.mx_turn.specs.Cycle.{MachineState, reached, latched}
use Rattle.mx_turn.specs.OneTurn.{as_fetch, UserSame, Follows, IsOnBoard}
use Rattle.mx_turn.specs.Program.{Program, program_of, code_of, state_after, answer_after}
use Rattle.mx_turn.specs.Run.{is_requested, bits, run_of}
use Rattle.mx_turn.specs.Handler.{shipped}
use Rattle.law_interrupts.specs.Laws.{IsCleanImage, delay_of}

-- the machine before a cycle, and an interrupt that is taken in it
abbrev pub before_cycle : Program → List ℕ → ℕ → MachineState
before_cycle q requests n = state_after q (bits requests n)

abbrev pub takes_in : Program → List ℕ → ℕ → Bool
takes_in q requests n = (answer_after q (bits requests n) (is_requested requests n)).taken

-- the machine in a cycle in which a turn acts, once the word in MEM has committed
abbrev pub in_cycle : Program → List ℕ → ℕ → MachineState
in_cycle q requests n = reached (code_of q) q.input (latched (is_requested requests n) (before_cycle q requests n))

-- after an interrupt: the chain is the queue with its marks; registers, MD, user data and the number of input bytes taken are equal
pub record Saved (p : Place) (m : MachineState) (d : Delay) : Type 0 where
  pub chain : m.chain ≡ chain_of (as_fetch d.first) (as_fetch d.second) (as_fetch d.third)
  pub regs : m.core.regs ≡ d.core.regs
  pub md : m.core.md ≡ d.core.md
  pub mem : UserSame p m.core.mem d.core.mem
  pub taken : m.core.taken ≡ d.core.taken

-- x is a machine that has not halted, and its coming cycle is the last one of the 26th turn after m
pub record IsTurn26 (m x : MachineState) : Type 0 where
  pub goes : x.halted ≡ false
  pub acts : x.stall ≡ 0
  pub turns : x.counts.fetches ≡ m.counts.fetches + 25

-- Where an interrupt is taken in cycle n of a clean run, it saves the state of the machine with delay slots after as many steps as words had
-- passed by then; and where the 26th turn after it is completed, that state is in the stages again, and system word 0 is one more.
abbrev pub InterruptSaves : Type 0
InterruptSaves =
    (code_words data_words : List ℕ) (input : Option (List ℕ)) (requests : List ℕ) (budget : ℕ) (p : Place)
    → IsOnBoard p
    → p.code ≡ CODE_BASE
    → let q = program_of shipped code_words data_words input in
    IsCleanImage q p budget
    → (n : ℕ) → n < budget
    → takes_in q requests n ≡ true
    → let m = before_cycle q requests (suc n) in
    let d = delay_of q p (run_of q requests (suc n)).passed in
    Saved p m d
    × ((j : ℕ) → n < j → IsTurn26 m (before_cycle q requests j)
    → Follows p (in_cycle q requests j) d × ((in_cycle q requests j).core.mem 0 ≡ (m.core.mem 0 + 1) % 2 ^ 32))
