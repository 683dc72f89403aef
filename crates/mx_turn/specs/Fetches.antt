-- The machine cycle by cycle, over the list F of all its fetches; t is the current turn.
use Rattle.std.specs.Prelude.{◌≡◌, ℕ, zero, suc, ◌+◌, ◌-◌, Bool, true, false, cond, eqb, not, ◌&&◌, ◌||◌, List, [], ◌∷◌, map, drop, slice_get, Option, Some, None, is_some}
use Rattle.mx_isa.specs.declared.board.TheConstants.{CODE_BASE}
use Rattle.mx_isa.specs.declared.inst.Inst.{Inst}
use Rattle.mx_isa.specs.Words.{Words, reg}
use Rattle.mx_isa.specs.Effect.{Change, Decision, Core, decides, apply, sent}
use Rattle.mx_isa.specs.Views.{sources, is_halt}
use Rattle.mx_delay.specs.Delay.{Code}
use Rattle.mx_icache.specs.Residency.{resident}
use Rattle.mx_pcchain.specs.declared.chain.Chain.{Chain}
use Rattle.mx_pcchain.specs.declared.psw.Psw.{Psw}
use Rattle.mx_pcchain.specs.Fetch.{Fetch}
use Rattle.mx_pcchain.specs.Chain.{empty_chain, chain_of, pop}
use Rattle.mx_pcchain.specs.Modes.{psw_at_start, psw_entered, psw_restored}
use Rattle.mx_board.specs.Data.{board}
use Rattle.mx_turn.specs.declared.latches.Stage.TheVariants.{Empty}
use Rattle.mx_turn.specs.declared.latches.Latches.{Latches}
use Rattle.mx_turn.specs.declared.machine.Cycled.{Cycled}
use Rattle.mx_turn.specs.Counted.{Counted, no_counts, after_stall, after_turn}
use Rattle.mx_turn.specs.Stages.{fetch_of, live, address_of, stage_of}
use Rattle.mx_turn.specs.System.{system_change, moved, pops, restores, slot_of, seen, number_of}
use Rattle.mx_turn.specs.Cycle.{MachineState, led}
use Rattle.mx_turn.specs.Program.{Program, code_of, memory_of, state_after, answer_after}

-- a fetch: a branch may have squashed it, and an interrupt killed it
pub record Marked : Type 0 where
  pub address : ℕ
  pub squashed : Bool
  pub killed : Bool

pub record FetchState : Type 0 where
  -- all fetches, the newest first: place n holds F[t-n]
  pub fetches : List Marked
  -- the stalled cycles that are left of turn t
  pub stall : ℕ
  -- an interrupt request is latched
  pub latch : Bool
  -- registers, MD, data words, and the number of input bytes taken
  pub core : Core
  -- the registers as the last completed turn began
  pub before : Words
  pub chain : Chain
  -- both PSWs
  pub psw : Psw
  pub halted : Bool
  pub counts : Counted
  -- what the last completed turn shows
  pub shown : Latches

-- a fetch joins without the mark killed
abbrev pub unkilled : Fetch → Marked
unkilled f = record { address = f.address; squashed = f.squashed; killed = false }

abbrev pub addresses : List Marked → List ℕ
addresses = map (λ (f : Marked). f.address)

-- the first n fetches get a mark
abbrev pub mark_first : (Marked → Marked) → ℕ → List Marked → List Marked
mark_first mark zero fetches = fetches
mark_first mark (suc n) [] = []
mark_first mark (suc n) (f ∷ fetches) = mark f ∷ mark_first mark n fetches

abbrev pub kill : Marked → Marked
kill f = record f { killed = true }

abbrev pub squash_if : Bool → Marked → Marked
squash_if cancels f = record f { squashed = cancels || f.squashed }

-- what a stage holds of a fetch: one that was killed leaves it empty
abbrev pub held : Option Marked → Option Fetch
held None = None
held (Some f) = cond f.killed None (Some (record { address = f.address; squashed = f.squashed }))

-- the stage of F[t-n]: 0 is IF, 1 RF, 2 ALU, 3 MEM, 4 WB
abbrev pub stage : ℕ → FetchState → Option Fetch
stage n s = held (slice_get s.fetches n)

-- what F[t-n] does; it is live where it is neither squashed nor killed, and does nothing where it is not
abbrev pub word : Code → ℕ → FetchState → Inst
word code n s = live code (stage n s)

-- the registers as the word behind F[t-n] sees them: where F[t-n] is a live load, with the old value of its register
abbrev pub behind : Code → ℕ → FetchState → Words
behind code n s = seen (slot_of (word code n s) s.before) s.core.regs

-- the newest of some fetches, without the mark killed
abbrev pub newest : List Marked → Fetch
newest [] = fetch_of 0
newest (f ∷ earlier) = record { address = f.address; squashed = f.squashed }

-- F[t-n], killed or not
abbrev pub ago : ℕ → FetchState → Fetch
ago n s = newest (drop n s.fetches)

-- F[t] was not resident after the fetches before it
abbrev pub missed : FetchState → Bool
missed s = not (resident (addresses (drop 1 s.fetches)) (ago 0 s).address)

-- 1. The latch takes the request. A stalled cycle that is left is used up, and nothing else happens.
abbrev pub asked : Bool → FetchState → FetchState
asked request s = record s { latch = s.latch || request }

abbrev pub stalled : FetchState → FetchState
stalled s = record s { stall = s.stall - 1; counts = after_stall s.counts }

-- 2. F[t-3] commits as a whole, and sees the old value of a register that F[t-4] loads.
abbrev pub change_by : Code → Option (List ℕ) → FetchState → Change
change_by code input s =
    let bus = board s.psw.current.user input in
    system_change s.psw.current.user s.chain (word code 3 s) (address_of (stage 3 s)) (behind code 4 s) s.core.md (bus.load s.core.mem s.core.taken)

abbrev pub commit : Code → Option (List ℕ) → FetchState → FetchState
commit code input s = record s {
  core = apply (board s.psw.current.user input) (change_by code input s) s.core;
  before = s.core.regs;
  chain = moved s.psw.current.user (word code 3 s) (behind code 4 s) s.chain;
  halted = is_halt (word code 3 s);
}

-- the byte that it sends
abbrev pub byte_of : Code → Option (List ℕ) → FetchState → Option ℕ
byte_of code input s = sent (board s.psw.current.user input) (change_by code input s).stores

-- 3. Where F[t-3] is a live halt, the run ends with this cycle: see `finish`.

-- 4. An interrupt is taken where a request is latched, interrupts are on, and F[t-2] exists and is not killed.
abbrev pub interrupted : FetchState → Bool
interrupted s = s.psw.current.interrupts && (s.latch && is_some (stage 2 s))

-- the chain keeps F[t-2], F[t-1] and F[t], which are killed
abbrev pub enter : FetchState → FetchState
enter s = record s {
  fetches = mark_first kill 3 s.fetches;
  latch = false;
  chain = chain_of (ago 2 s) (ago 1 s) (ago 0 s);
  psw = psw_entered s.psw;
}

-- 5. Otherwise F[t-2] decides, and sees the old value of a register that F[t-3] loads.
abbrev pub decided_in : Code → FetchState → Decision
decided_in code s = decides (word code 2 s) (address_of (stage 2 s)) (behind code 3 s)

-- it goes back to a saved fetch
abbrev pub goes_back : Code → FetchState → Bool
goes_back code s = pops (word code 2 s) && not s.psw.current.user

-- a squashing branch that does not hold squashes F[t-1] and F[t]
abbrev pub decide : Code → FetchState → FetchState
decide code s = record s {
  fetches = mark_first (squash_if (decided_in code s).cancels) 2 s.fetches;
  chain = cond (goes_back code s) (pop s.chain) s.chain;
  psw = cond (restores (word code 2 s) && goes_back code s) (psw_restored s.psw) s.psw;
}

-- the next fetch: address 0 for an interrupt, a saved fetch, a target, or the address behind F[t]
abbrev pub next_fetch : Bool → Code → FetchState → Fetch
next_fetch taken code s = cond taken (fetch_of 0) (led (goes_back code s) s.chain (decided_in code s) (ago 0 s))

-- 6. The next fetch joins F. Two stalled cycles come before it acts where it is not resident.
abbrev pub join : Fetch → FetchState → FetchState
join f s = record s { fetches = unkilled f ∷ s.fetches; stall = cond (resident (addresses s.fetches) f.address) 0 2 }

-- what is shown of the turn: the stages with their marks as it began, and what F[t-2] reads and makes after the commit
abbrev pub show : Code → FetchState → FetchState
show code s =
    let a = reg (behind code 3 s) (sources (word code 2 s)).0 in
    let b = reg (behind code 3 s) (sources (word code 2 s)).1 in
    record s {
      shown = record {
        fetch = stage_of (stage 0 s);
        rf = stage_of (stage 1 s);
        alu = stage_of (stage 2 s);
        mem = stage_of (stage 3 s);
        wb = stage_of (stage 4 s);
        a = a;
        b = b;
        result = number_of s.psw.current.user s.chain (word code 2 s) (address_of (stage 2 s)) a b s.core.md;
      };
    }

-- a turn up to its commit, with what it shows
abbrev pub begun : Code → Option (List ℕ) → FetchState → FetchState
begun code input s = show code (commit code input s)

-- the end of a turn, by whether it committed a halt, and whether an interrupt is taken; behind a halt nothing takes effect
abbrev pub finish : Bool → Bool → Code → Counted → FetchState → FetchState
finish halted taken code counts s =
    cond halted
    (record s { counts = counts })
    (join (next_fetch taken code s) (record (cond taken (enter s) (decide code s)) { counts = counts }))

abbrev pub takes_in_turn : FetchState → Bool
takes_in_turn s = not s.halted && interrupted s

abbrev pub squashes_in_turn : Code → FetchState → Bool
squashes_in_turn code s = not s.halted && (not (interrupted s) && (decided_in code s).cancels)

-- a cycle in which a turn acts
abbrev pub turn_of : Code → Option (List ℕ) → FetchState → FetchState
turn_of code input s =
    let c = begun code input s in
    finish c.halted (interrupted c) code (after_turn (missed s) (squashes_in_turn code c) (takes_in_turn c) s.counts) c

-- one cycle, with a request or not; after a halt nothing changes
abbrev pub cycle_of : Code → Option (List ℕ) → FetchState → Bool → FetchState
cycle_of code input s request =
    cond s.halted s
    (cond (eqb s.stall 0)
    (turn_of code input (asked request s))
    (stalled (asked request s)))

abbrev pub turn_answer : Code → Option (List ℕ) → FetchState → Cycled
turn_answer code input s =
    let c = begun code input s in
    record { byte = byte_of code input s; taken = takes_in_turn c; halted = c.halted; stalled = false }

-- what the cycle answers
abbrev pub cycle_answer : Code → Option (List ℕ) → FetchState → Bool → Cycled
cycle_answer code input s request =
    cond s.halted (record { byte = None; taken = false; halted = true; stalled = false })
    (cond (eqb s.stall 0)
    (turn_answer code input (asked request s))
    (record { byte = None; taken = false; halted = false; stalled = true }))

-- before the first cycle: F is the fetch of address 4096, which waits, since the cache is empty
abbrev pub fetches_start : Words → FetchState
fetches_start data_words = record {
  fetches = unkilled (fetch_of CODE_BASE) ∷ [];
  stall = 2;
  latch = false;
  core = record { regs = λ n. 0; md = 0; mem = data_words; taken = 0 };
  before = λ n. 0;
  chain = empty_chain;
  psw = psw_at_start;
  halted = false;
  counts = no_counts;
  shown = record { fetch = Empty; rf = Empty; alu = Empty; mem = Empty; wb = Empty; a = 0; b = 0; result = 0 };
}

abbrev pub fetches_from : Code → Option (List ℕ) → FetchState → List Bool → FetchState
fetches_from code input s [] = s
fetches_from code input s (request ∷ requests) = fetches_from code input (cycle_of code input s request) requests

-- after these request bits
abbrev pub fetches_after : Program → List Bool → FetchState
fetches_after p h = fetches_from (code_of p) p.input (fetches_start (memory_of p)) h

-- The stages of a turn as a window onto F: those of turn t for n = 0, and of the one before it for n = 1.
abbrev pub window_at : ℕ → Code → FetchState → MachineState
window_at n code s = record {
  next = ago 0 s;
  fetch = stage n s;
  rf = stage (n + 1) s;
  alu = stage (n + 2) s;
  mem = stage (n + 3) s;
  wb = stage (n + 4) s;
  past = addresses (drop n s.fetches);
  stall = s.stall;
  latch = s.latch;
  core = s.core;
  before = s.before;
  slot = slot_of (word code (n + 3) s) s.before;
  chain = s.chain;
  psw = s.psw;
  halted = s.halted;
  shown = s.shown;
  counts = s.counts;
}

-- the last completed turn is t once the run has ended, and the one before it until then
abbrev pub window : Code → FetchState → MachineState
window code s = window_at (cond s.halted 0 1) code s

-- After every list of request bits the machine with the stages of the last turn is the window onto that with all fetches, and the two answer alike.
abbrev pub WindowOnFetches : Type 0
WindowOnFetches =
    (p : Program) (h : List Bool)
    → (state_after p h ≡ window (code_of p) (fetches_after p h))
    × ((request : Bool) → answer_after p h request ≡ cycle_answer (code_of p) p.input (fetches_after p h) request)
