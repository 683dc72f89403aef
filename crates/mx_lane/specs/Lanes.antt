-- What a lane keeps of the definition's state, once the word in MEM has committed.
use Rattle.std.specs.Prelude.{◌≡◌, ◌<◌, ◌≤◌, ◌+◌, ◌-◌, ◌^◌, ℕ, zero, suc, Bool, true, false, not, cond, List, [], ◌∷◌, ◌++◌, Option, Some, option_to_list, slice_index}
use Rattle.mx_isa.specs.Words.{Words, reg, write}
use Rattle.mx_isa.specs.Views.{dest}
use Rattle.mx_isa.specs.declared.inst.Inst.{Inst}
use Rattle.mx_isa.specs.Effect.{Decision, decides}
use Rattle.mx_delay.specs.Delay.{Code, next_of}
use Rattle.mx_icache.specs.Residency.{resident}
use Rattle.mx_board.specs.Contents.{Contents}
use Rattle.mx_board.specs.Data.{words_of}
use Rattle.mx_turn.specs.declared.latches.Latches.{Latches}
use Rattle.mx_turn.specs.Counted.{Counted, after_stall}
use Rattle.mx_turn.specs.Stages.{address_of, fetch_of, live, squash}
use Rattle.mx_turn.specs.System.{slot_of, seen}
use Rattle.mx_pcchain.specs.Chain.{fetch_from, pop}
use Rattle.mx_pcchain.specs.Modes.{psw_restored}
use Rattle.mx_turn.specs.Cycle.{MachineState, shifted, committed, decided_by, cycled, answer}
use Rattle.mx_lane.specs.declared.lane.Lane.{Lane}
use Rattle.mx_lane.specs.declared.queue.Queue.{Queue}
use Rattle.mx_lane.specs.declared.window.Window.{Window}

-- the state that it keeps, with what it does not keep
abbrev pub lane_of : Lane → Contents → List ℕ → Words → Latches → Counted → MachineState
lane_of l b past before shown counts = record {
  next = l.next;
  fetch = Some l.next;
  rf = l.rf;
  alu = l.alu;
  mem = l.mem;
  wb = l.wb;
  past = past;
  stall = 0;
  latch = false;
  core = record { regs = slice_index l.registers.file; md = l.registers.md; mem = words_of b; taken = b.taken };
  before = before;
  slot = l.registers.slot;
  chain = l.registers.chain;
  psw = l.psw;
  halted = false;
  shown = shown;
  counts = counts;
}

-- a lane with what changes in each turn taken from a queue
abbrev pub joined : Queue → Lane → Lane
joined q l = record l { next = q.next; rf = q.rf; alu = q.alu; mem = q.mem; wb = q.wb; counts = q.counts; missed = q.missed }

-- the words of a window are resident, and a fetch of one leaves the cache as it is
pub record IsKnown {C : Type 0} (holds : C → List ℕ → Type 0) (w : Window) (cache : C) : Type 0 where
  pub here : (past : List ℕ) → holds cache past → (j : ℕ) → j < w.words → resident past (w.low + j) ≡ true
  pub kept : (past : List ℕ) → holds cache past → (j : ℕ) → j < w.words → holds cache ((w.low + j) ∷ past)

-- both windows of a queue are known, and where its fetch missed, the next one is looked up
pub record AreKnown {C : Type 0} (holds : C → List ℕ → Type 0) (q : Queue) (cache : C) : Type 0 where
  pub window : IsKnown holds q.window cache
  pub other : IsKnown holds q.other cache
  pub missed : q.missed ≡ true → q.window.words ≡ 0

-- after so many turns whose fetches are resident and that cancel nothing
abbrev pub after_turns : ℕ → Counted → Counted
after_turns n c = record c { cycles = c.cycles + n; fetches = c.fetches + n }

-- a queue whose turns are counted up to where so many cycles are left
abbrev pub caught_up : ℕ → Queue → Queue
caught_up left q = record q { counts = after_turns (q.mark - left) q.counts }

-- there is room for the turns that are counted later
pub record IsCounting (left : ℕ) (q : Queue) : Type 0 where
  pub within : left ≤ q.mark
  pub room : q.counts.cycles + q.mark ≤ 2 ^ 63

-- what a decision does that goes back to no saved fetch
abbrev pub plain : Decision → MachineState → MachineState
plain d m = record m {
  next = fetch_of (next_of d.target m.next.address);
  fetch = squash d.cancels m.fetch;
  rf = squash d.cancels m.rf;
}

-- what a decision does that goes back to a saved fetch, and to the other mode or not
abbrev pub back : Bool → Decision → MachineState → MachineState
back restores d m = record m {
  next = fetch_from m.chain.pc1;
  fetch = squash d.cancels m.fetch;
  rf = squash d.cancels m.rf;
  chain = pop m.chain;
  psw = cond restores (psw_restored m.psw) m.psw;
}

-- where the word in ALU leads
abbrev pub lead_of : Inst → Queue → Lane → Decision
lead_of inst q l = decides inst (address_of q.alu) (seen l.registers.slot (slice_index l.registers.file))

-- the stages move on by a decision that goes back to no saved fetch, whatever else the lane keeps
abbrev pub MovesBy : Decision → Queue → Queue → Type 0
MovesBy d q after =
    (l : Lane) (b : Contents) (past : List ℕ) (before : Words) (shown : Latches) (counts : Counted)
    → lane_of (joined after l) b (after.next.address ∷ past) before shown counts ≡ shifted (plain d (lane_of (joined q l) b past before shown counts))

-- by the decision of an instruction in ALU the stages of a queue move on, and a lane takes a saved fetch and the other mode
abbrev pub DecidesBy : Inst → Decision → Queue → Lane → Queue → Lane → Type 0
DecidesBy i d q l after left =
    (b : Contents) (past : List ℕ) (before : Words) (shown : Latches) (counts : Counted)
    → lane_of (joined after left) b (after.next.address ∷ past) before shown counts
    ≡ shifted (decided_by i d (lane_of (joined q l) b past before shown counts))

-- the cycles of a turn without those of its fetch, and with those of the next one's
abbrev pub turn_cycles : Bool → ℕ
turn_cycles resident = cond resident 1 3

abbrev pub turn_counts : Bool → Counted → Counted
turn_counts resident counts = cond resident counts (after_stall (after_stall counts))

-- the machine after n cycles without a request
abbrev pub quietly : Code → Option (List ℕ) → ℕ → MachineState → MachineState
quietly code input zero m = m
quietly code input (suc n) m = cycled resident code input (quietly code input n m) false

-- the bytes of the n cycles behind the next one
abbrev pub later_bytes : Code → Option (List ℕ) → ℕ → MachineState → List ℕ
later_bytes code input zero m = []
later_bytes code input (suc n) m = later_bytes code input n m ++ option_to_list (answer code input (quietly code input (suc n) m) false).byte

-- the lane is in the turn that the machine is before, and the cache was asked for its fetch
pub record InTurn {C : Type 0} (holds : C → List ℕ → Type 0) (code : Code) (m : MachineState) (l : Lane) (b : Contents) (cache : C) : Type 0 where
  pub past : List ℕ
  pub before : Words
  pub state : committed code b.input (shifted m) ≡ lane_of l b past before m.shown m.counts
  pub on : m.halted ≡ false
  pub counts : l.counts ≡ m.counts
  pub missed : l.missed ≡ not (resident m.past m.next.address)
  pub replaced : l.replaced ≡ reg before (dest (live code l.mem))
  pub held : holds cache past

-- by what the lane remembers of the register that the word in MEM wrote, the registers before it committed are found again
pub record IsLeft (code : Code) (l : Lane) (before : Words) : Type 0 where
  pub file : write (slice_index l.registers.file) (dest (live code l.mem)) l.replaced ≡ before
  pub regs : write before (dest (live code l.mem)) (reg (slice_index l.registers.file) (dest (live code l.mem))) ≡ slice_index l.registers.file
  pub slot : slot_of (live code l.mem) before ≡ l.registers.slot
