-- The machine cycle by cycle, with the stages of the last completed turn.
use Rattle.std.specs.Prelude.{ℕ, ◌-◌, Bool, true, false, cond, eqb, not, ◌&&◌, ◌||◌, List, [], ◌∷◌, Option, Some, None, is_some}
use Rattle.mx_isa.specs.declared.board.TheConstants.{CODE_BASE}
use Rattle.mx_isa.specs.declared.inst.Inst.{Inst}
use Rattle.mx_isa.specs.Words.{Words, reg}
use Rattle.mx_isa.specs.Effect.{Change, Decision, Core, Bus, decides, apply, sent}
use Rattle.mx_isa.specs.Views.{sources, is_halt}
use Rattle.mx_delay.specs.Delay.{Code, next_of}
use Rattle.mx_pcchain.specs.declared.chain.Chain.{Chain}
use Rattle.mx_pcchain.specs.declared.psw.Psw.{Psw}
use Rattle.mx_pcchain.specs.Fetch.{Fetch}
use Rattle.mx_pcchain.specs.Chain.{empty_chain, chain_of, fetch_from, pop}
use Rattle.mx_pcchain.specs.Modes.{psw_at_start, psw_entered, psw_restored}
use Rattle.mx_turn.specs.declared.latches.Stage.TheVariants.{Empty}
use Rattle.mx_turn.specs.declared.latches.Latches.{Latches}
use Rattle.mx_turn.specs.declared.machine.Cycled.{Cycled}
use Rattle.mx_board.specs.Data.{board}
use Rattle.mx_turn.specs.Counted.{Counted, no_counts, after_stall, after_turn}
use Rattle.mx_turn.specs.Stages.{fetch_of, live, address_of, squash, saved, stage_of}
use Rattle.mx_turn.specs.System.{Slot, no_slot, system_change, moved, pops, restores, slot_of, seen, number_of}

pub record MachineState : Type 0 where
  -- what the coming turn fetches
  pub next : Fetch
  -- the fetches in the stages of the last completed turn, with their marks as they now stand; a killed one is gone
  pub fetch : Option Fetch
  pub rf : Option Fetch
  pub alu : Option Fetch
  pub mem : Option Fetch
  pub wb : Option Fetch
  -- the addresses of all completed turns, the newest first
  pub past : List ℕ
  -- the stalled cycles that are left before the coming turn acts
  pub stall : ℕ
  -- an interrupt request is latched
  pub latch : Bool
  pub core : Core
  -- the registers as the last completed turn began
  pub before : Words
  -- the register of a load that committed in the last turn
  pub slot : Slot
  pub chain : Chain
  pub psw : Psw
  pub halted : Bool
  pub shown : Latches
  pub counts : Counted

-- a turn begins: the stages move on
abbrev pub shifted : MachineState → MachineState
shifted m = record m { fetch = Some m.next; rf = m.fetch; alu = m.rf; mem = m.alu; wb = m.mem; past = m.next.address ∷ m.past }

-- what the data words answer in the current mode
abbrev pub bus_of : Option (List ℕ) → MachineState → Bus
bus_of input m = board m.psw.current.user input

-- what the word in MEM changes
abbrev pub mem_change : Code → Option (List ℕ) → MachineState → Change
mem_change code input m =
    system_change m.psw.current.user m.chain (live code m.mem) (address_of m.mem) (seen m.slot m.core.regs) m.core.md
    ((bus_of input m).load m.core.mem m.core.taken)

-- the word in MEM commits as a whole
abbrev pub committed : Code → Option (List ℕ) → MachineState → MachineState
committed code input m =
    let i = live code m.mem in
    record m {
      core = apply (bus_of input m) (mem_change code input m) m.core;
      before = m.core.regs;
      slot = slot_of i m.core.regs;
      chain = moved m.psw.current.user i (seen m.slot m.core.regs) m.chain;
      halted = is_halt i;
    }

-- the byte that it sends
abbrev pub commit_byte : Code → Option (List ℕ) → MachineState → Option ℕ
commit_byte code input m = sent (bus_of input m) (mem_change code input m).stores

-- the operands of the word in ALU, and the number that it makes
abbrev pub first : Code → MachineState → ℕ
first code m = reg (seen m.slot m.core.regs) (sources (live code m.alu)).0

abbrev pub second : Code → MachineState → ℕ
second code m = reg (seen m.slot m.core.regs) (sources (live code m.alu)).1

abbrev pub number : Code → MachineState → ℕ
number code m = number_of m.psw.current.user m.chain (live code m.alu) (address_of m.alu) (first code m) (second code m) m.core.md

-- what a trace shows of the turn, before anything is squashed or killed in it
abbrev pub showing : Code → MachineState → MachineState
showing code m = record m {
  shown = record {
    fetch = stage_of m.fetch;
    rf = stage_of m.rf;
    alu = stage_of m.alu;
    mem = stage_of m.mem;
    wb = stage_of m.wb;
    a = first code m;
    b = second code m;
    result = number code m;
  };
}

-- an interrupt is taken in this turn: one is latched, interrupts are on, and ALU holds a fetch
abbrev pub is_taken : MachineState → Bool
is_taken m = m.psw.current.interrupts && (m.latch && is_some m.alu)

-- the interrupt kills the fetches in ALU, RF and IF, and the chain keeps them
abbrev pub entered : MachineState → MachineState
entered m = record m {
  next = fetch_of 0;
  fetch = None;
  rf = None;
  alu = None;
  latch = false;
  chain = chain_of (saved m.alu) (saved m.rf) (saved m.fetch);
  psw = psw_entered m.psw;
}

-- what the word in ALU decides
abbrev pub decision : Code → MachineState → Decision
decision code m = decides (live code m.alu) (address_of m.alu) (seen m.slot m.core.regs)

-- where the next fetch goes: back to a saved one, or by the decision
abbrev pub led : Bool → Chain → Decision → Fetch → Fetch
led back c d last = cond back (fetch_from c.pc1) (fetch_of (next_of d.target last.address))

-- an instruction decides in ALU; in system mode it may pop the chain and bring back the other mode
abbrev pub decided_by : Inst → Decision → MachineState → MachineState
decided_by i d m =
    let back = pops i && not m.psw.current.user in
    record m {
      next = led back m.chain d m.next;
      fetch = squash d.cancels m.fetch;
      rf = squash d.cancels m.rf;
      chain = cond back (pop m.chain) m.chain;
      psw = cond (restores i && back) (psw_restored m.psw) m.psw;
    }

abbrev pub decided : Code → MachineState → MachineState
decided code m = decided_by (live code m.alu) (decision code m) m

abbrev pub turned : Code → MachineState → MachineState
turned code m = cond (is_taken m) (entered m) (decided code m)

-- two stalled cycles come before a fetch that is not resident
abbrev pub waited : (List ℕ → ℕ → Bool) → MachineState → MachineState
waited resident m = record m { stall = cond (resident m.past m.next.address) 0 2 }

abbrev pub latched : Bool → MachineState → MachineState
latched request m = record m { latch = m.latch || request }

-- the turn up to its commit, with what it shows
abbrev pub reached : Code → Option (List ℕ) → MachineState → MachineState
reached code input m = showing code (committed code input (shifted m))

-- where the word in MEM is a halt, nothing behind it takes effect
abbrev pub ended : Code → MachineState → MachineState
ended code c = cond c.halted c (turned code c)

abbrev pub takes : MachineState → Bool
takes c = not c.halted && is_taken c

-- a squashing branch did not hold
abbrev pub squashes : Code → MachineState → Bool
squashes code c = not c.halted && (not (is_taken c) && (decision code c).cancels)

abbrev pub counts_after : Code → Option (List ℕ) → Bool → MachineState → Counted
counts_after code input missed m = let c = reached code input m in after_turn missed (squashes code c) (takes c) m.counts

-- a cycle in which a turn acts
abbrev pub acted : (List ℕ → ℕ → Bool) → Code → Option (List ℕ) → MachineState → MachineState
acted resident code input m =
    waited resident (record (ended code (reached code input m)) { counts = counts_after code input (not (resident m.past m.next.address)) m })

-- one cycle, with a request or not, by the fetches that are resident after others, the code words and the input
abbrev pub cycled : (List ℕ → ℕ → Bool) → Code → Option (List ℕ) → MachineState → Bool → MachineState
cycled resident code input m request =
    cond m.halted m
    (cond (eqb m.stall 0)
    (acted resident code input (latched request m))
    (record (latched request m) { stall = m.stall - 1; counts = after_stall m.counts }))

abbrev pub acted_answer : Code → Option (List ℕ) → MachineState → Cycled
acted_answer code input m =
    let c = reached code input m in
    record { byte = commit_byte code input (shifted m); taken = takes c; halted = c.halted; stalled = false }

-- what the cycle answers
abbrev pub answer : Code → Option (List ℕ) → MachineState → Bool → Cycled
answer code input m request =
    cond m.halted (record { byte = None; taken = false; halted = true; stalled = false })
    (cond (eqb m.stall 0)
    (acted_answer code input (latched request m))
    (record { byte = None; taken = false; halted = false; stalled = true }))

-- before the first cycle, with these data words: user mode, interrupts on, and nothing in the cache
abbrev pub start : Words → MachineState
start data_words = record {
  next = fetch_of CODE_BASE;
  fetch = None;
  rf = None;
  alu = None;
  mem = None;
  wb = None;
  past = [];
  stall = 2;
  latch = false;
  core = record { regs = λ n. 0; md = 0; mem = data_words; taken = 0 };
  before = λ n. 0;
  slot = no_slot;
  chain = empty_chain;
  psw = psw_at_start;
  halted = false;
  shown = record { fetch = Empty; rf = Empty; alu = Empty; mem = Empty; wb = Empty; a = 0; b = 0; result = 0 };
  counts = no_counts;
}

-- after these request bits
abbrev pub after_bits : (List ℕ → ℕ → Bool) → Code → Option (List ℕ) → MachineState → List Bool → MachineState
after_bits resident code input m [] = m
after_bits resident code input m (request ∷ requests) = after_bits resident code input (cycled resident code input m request) requests
