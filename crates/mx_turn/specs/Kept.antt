-- The state of the definition that `Turns` keeps.
use Rattle.std.specs.Prelude.{◌≡◌, ℕ, Bool, not, cond, ◌&&◌, List, ◌∷◌, slice_index, unwrap_or}
use Rattle.mx_isa.specs.Words.{Words, reg}
use Rattle.mx_isa.specs.Views.{sources}
use Rattle.mx_delay.specs.Delay.{Code, next_of}
use Rattle.mx_icache.specs.Residency.{resident}
use Rattle.mx_board.specs.Data.{words_of}
use Rattle.mx_pcchain.specs.Chain.{fetch_from, pop}
use Rattle.mx_pcchain.specs.Modes.{psw_restored}
use Rattle.mx_turn.specs.declared.latches.Latches.{Latches}
use Rattle.mx_turn.specs.declared.alu_stage.Decided.{Decided}
use Rattle.mx_turn.specs.declared.turns.Looked.{Looked}
use Rattle.mx_turn.specs.declared.turns.Turns.{Turns}
use Rattle.mx_turn.specs.Decoded.{code_in}
use Rattle.mx_turn.specs.Stages.{fetch_of, live, address_of, squash, stage_of}
use Rattle.mx_turn.specs.System.{seen, number_of}
use Rattle.mx_turn.specs.Cycle.{MachineState, shifted, committed, showing, waited, acted}
use Rattle.mx_turn.specs.Program.{Program, code_of, state_after}

abbrev pub code_of_turns : {C : Type 0} → Turns C → Code
code_of_turns t = code_in t.code

-- what it keeps, with what it does not keep: the addresses of completed turns, the registers as the last one began, and what that one showed
abbrev pub machine_of : {C : Type 0} → Turns C → List ℕ → Words → Latches → MachineState
machine_of t past before shown = record {
  next = t.next;
  fetch = t.fetch;
  rf = t.rf;
  alu = t.alu;
  mem = t.mem;
  wb = t.wb;
  past = past;
  stall = t.stall;
  latch = t.latch;
  core = record { regs = slice_index t.registers.file; md = t.registers.md; mem = words_of t.board; taken = t.board.taken };
  before = before;
  slot = t.registers.slot;
  chain = t.registers.chain;
  psw = t.psw;
  halted = t.halted;
  shown = shown;
  counts = t.counts;
}

-- what the last completed turn showed of the stages, the mode and the chain
abbrev pub looked_of : {C : Type 0} → Turns C → Looked
looked_of t = unwrap_or t.looked (record { fetch = t.fetch; rf = t.rf; alu = t.alu; user = t.psw.current.user; chain = t.registers.chain })

-- all that it showed, from that and from what is left of it: nothing changes the registers between turns
abbrev pub shown_by : {C : Type 0} → Turns C → Looked → Latches
shown_by t l =
    let i = live (code_of_turns t) l.alu in
    let sees = seen t.registers.slot (slice_index t.registers.file) in
    let a = reg sees (sources i).0 in
    let b = reg sees (sources i).1 in
    record {
      fetch = stage_of l.fetch;
      rf = stage_of l.rf;
      alu = stage_of l.alu;
      mem = stage_of t.mem;
      wb = stage_of t.wb;
      a = a;
      b = b;
      result = number_of l.user l.chain i (address_of l.alu) a b t.registers.md;
    }

abbrev pub shown_of : {C : Type 0} → Turns C → Latches
shown_of t = shown_by t (looked_of t)

-- it stands for the program after the request bits
pub record StandsFor {C : Type 0} (holds : C → List ℕ → Type 0) (t : Turns C) (p : Program) (h : List Bool) : Type 0 where
  pub past : List ℕ
  pub before : Words
  pub cache : holds t.cache (t.next.address ∷ past)
  pub missed : t.missed ≡ not (resident past t.next.address)
  pub code : code_of_turns t ≡ code_of p
  pub input : t.board.input ≡ p.input
  pub state : machine_of t past before (shown_of t) ≡ state_after p h

-- the code words and the input stay
pub record KeepsProgram {C : Type 0} (t t' : Turns C) : Type 0 where
  pub code : t'.code ≡ t.code
  pub input : t'.board.input ≡ t.board.input

-- what a step of `Turns` does to the state that it keeps, whatever it does not keep
abbrev pub Does : {C : Type 0} → (MachineState → MachineState) → Turns C → Turns C → Type 0
Does step t t' =
    (past : List ℕ) (before : Words) (shown : Latches) → machine_of t' past before shown ≡ step (machine_of t past before shown)

-- what a decision does, back to a saved fetch or not
abbrev pub aside : Decided → Bool → MachineState → MachineState
aside d back m = record m {
  next = cond back (fetch_from m.chain.pc1) (fetch_of (next_of d.target m.next.address));
  fetch = squash d.cancels m.fetch;
  rf = squash d.cancels m.rf;
  chain = cond back (pop m.chain) m.chain;
  psw = cond (d.restores && back) (psw_restored m.psw) m.psw;
}

-- what a method of `Turns` tells of that state
abbrev pub Tells : {C T : Type 0} → (MachineState → T) → Turns C → T → Type 0
Tells answers t result = (past : List ℕ) (before : Words) (shown : Latches) → result ≡ answers (machine_of t past before shown)

-- the stages move on and the word in MEM commits; the fetch has joined the others, and the file is the registers as the turn began
abbrev pub Commits : {C : Type 0} → Turns C → Turns C → Type 0
Commits t t' =
    (past : List ℕ) (before : Words) (shown : Latches)
    → machine_of t' (t.next.address ∷ past) (slice_index t.registers.file) shown
    ≡ committed (code_of_turns t) t.board.input (shifted (machine_of t past before shown))

-- what the turn shows is kept
abbrev pub Shows : {C : Type 0} → Turns C → Turns C → Type 0
Shows t t' =
    (past : List ℕ) (before : Words) (shown : Latches)
    → machine_of t' past before (shown_of t') ≡ showing (code_of_turns t) (machine_of t past before shown)

-- the next fetch waits where the cache does not hold it
abbrev pub Waits : {C : Type 0} → (C → List ℕ → Type 0) → Turns C → Turns C → Type 0
Waits holds t t' =
    (past : List ℕ) (before : Words) (shown : Latches) → holds t.cache past
    → machine_of t' past before shown ≡ waited resident (machine_of t past before shown)

-- the cache was asked for the next fetch
abbrev pub FetchesNext : {C : Type 0} → (C → List ℕ → Type 0) → Turns C → Turns C → Type 0
FetchesNext holds t t' = (past : List ℕ) → holds t.cache past → holds t'.cache (t'.next.address ∷ past)

abbrev pub KnowsMiss : {C : Type 0} → (C → List ℕ → Type 0) → Turns C → Turns C → Type 0
KnowsMiss holds t t' = (past : List ℕ) → holds t.cache past → t'.missed ≡ not (resident past t'.next.address)

-- a turn acts
abbrev pub Acts : {C : Type 0} → (C → List ℕ → Type 0) → Turns C → Turns C → Type 0
Acts holds t t' =
    (past : List ℕ) (before : Words) (shown : Latches)
    → holds t.cache (t.next.address ∷ past)
    → t.missed ≡ not (resident past t.next.address)
    → machine_of t' (t.next.address ∷ past) (slice_index t.registers.file) (shown_of t')
    ≡ acted resident (code_of_turns t) t.board.input (machine_of t past before shown)
