-- What the latches and the register file have to do with the definition's state.
use Rattle.std.specs.Prelude.{◌≡◌, ◌≤◌, ℕ, Bool, true, false, not, cond, eqb, List, ◌∷◌, length, Option, Some, None, slice_index}
use Rattle.mx_isa.specs.declared.board.TheConstants.{CODE_BASE, MAX_CODE_WORDS}
use Rattle.mx_isa.specs.Words.{Words, reg, write}
use Rattle.mx_isa.specs.Views.{sources, dest, is_load}
use Rattle.mx_code.specs.Decoding.{inst_of}
use Rattle.mx_delay.specs.Delay.{Code, code_from}
use Rattle.mx_icache.specs.Residency.{resident}
use Rattle.mx_board.specs.Data.{words_of}
use Rattle.mx_pcchain.specs.Fetch.{Fetch}
use Rattle.mx_turn.specs.declared.latches.Latches.{Latches}
use Rattle.mx_turn.specs.Decoded.{code_in}
use Rattle.mx_turn.specs.Stages.{live, address_of, stage_of}
use Rattle.mx_turn.specs.System.{slot_of, seen}
use Rattle.mx_turn.specs.Cycle.{MachineState, first, second, number}
use Rattle.mx_turn.specs.Program.{Program, code_with, code_of, state_after}
use Rattle.mx_pipe.specs.declared.pipe.Pipe.{Pipe}
use Rattle.mx_pipe.specs.declared.pipe.Wait.{Wait}
use Rattle.mx_pipe.specs.declared.pipe.Wait.TheVariants.{NotAsked, Missed}
use Rattle.mx_pipe.specs.declared.alu.Course.{Course}
use Rattle.mx_pipe.specs.declared.memory.Reached.{Reached}
use Rattle.mx_pipe.specs.Courses.{course_of, target_of}
use Rattle.mx_pipe.specs.Latched.{Latched, does}
use Rattle.mx_pipe.specs.Made.{allowed, md_behind, md_kept}

-- what each address of code does
abbrev pub code_of_pipe : {C : Type 0} → Pipe C → Code
code_of_pipe p = code_with (code_from inst_of 0 p.handler.items) (code_from inst_of CODE_BASE p.code.items)

-- a latch with operands from these registers
pub record IsRead (code : Code) (l : Latched) (stage : Option Fetch) (regs : Words) : Type 0 where
  pub word : l.word ≡ stage
  pub inst : does l ≡ live code stage
  pub a : l.a ≡ reg regs (sources (live code stage)).0
  pub b : l.b ≡ reg regs (sources (live code stage)).1

-- a latch with what its word, which is in ALU, makes
pub record IsMade (code : Code) (l : Latched) (m : MachineState) : Type 0 where
  pub word : l.word ≡ m.alu
  pub inst : does l ≡ allowed m.psw.current.user (live code m.alu)
  pub a : l.a ≡ first code m
  pub b : l.b ≡ second code m
  pub result : l.result ≡ number code m
  pub md : md_kept l.inst l.result l.md m.core.md ≡ md_behind (live code m.alu) (first code m) (second code m) m.core.md

-- the register file is one turn behind: the number of the word in MEM is written next
pub record IsBehind {C : Type 0} (p : Pipe C) (m : MachineState) : Type 0 where
  pub mem : p.mem.word ≡ m.mem
  pub wb : p.wb.word ≡ m.wb
  pub to : p.mem.b ≡ dest (does p.mem)
  pub within : p.mem.b ≤ 31
  pub file : slice_index p.file ≡ m.before
  pub regs : write (slice_index p.file) (dest (does p.mem)) p.mem.result ≡ m.core.regs
  pub slot : slot_of (does p.mem) (slice_index p.file) ≡ m.slot

-- what does not pass through latches, and that the user's words end where those of an image do
pub record SameRest {C : Type 0} (p : Pipe C) (m : MachineState) : Type 0 where
  pub next : p.next ≡ m.next
  pub md : p.md ≡ m.core.md
  pub words : words_of p.board ≡ m.core.mem
  pub taken : p.board.taken ≡ m.core.taken
  pub chain : p.chain ≡ m.chain
  pub psw : p.psw ≡ m.psw
  pub asked : p.asked ≡ m.latch
  pub halted : p.halted ≡ m.halted
  pub shown : p.shown ≡ m.shown
  pub short : length p.code.items ≤ MAX_CODE_WORDS

-- between turns, and once the words of a turn have moved on and the one in MEM has committed
pub record Holds {C : Type 0} (code : Code) (p : Pipe C) (m : MachineState) : Type 0 where
  pub fetch : p.fetch.word ≡ m.fetch
  pub rf : IsRead code p.rf m.rf m.core.regs
  pub alu : IsMade code p.alu m
  pub behind : IsBehind p m
  pub rest : SameRest p m

-- once the word in MEM has committed, and before the others move on
pub record Commits {C : Type 0} (code : Code) (p : Pipe C) (m : MachineState) : Type 0 where
  pub fetch : m.fetch ≡ Some m.next
  pub rf : p.fetch.word ≡ m.rf
  pub alu : IsRead code p.rf m.alu (slice_index p.file)
  pub behind : IsBehind p m
  pub rest : SameRest p m

-- what the machine learned of the word in MEM
pub record Tells (learned : Reached) (mem : Latched) : Type 0 where
  pub to : learned.to ≡ dest (does mem)
  pub passes : learned.passes ≡ cond (is_load (does mem)) 0 (dest (does mem))
  pub word : learned.word ≡ mem.result
  pub passed : learned.passed ≡ cond (eqb learned.passes 0) 0 learned.word

-- where the word in ALU leads
abbrev pub course_in : Code → MachineState → Course
course_in code m = course_of (live code m.alu) (address_of m.alu) m.next.address (seen m.slot m.core.regs)

abbrev pub Leads : Code → MachineState → Course → Type 0
Leads code m course = course ≡ course_in code m

-- the same by the address that it leads to at once
abbrev pub LeadsTo : Code → MachineState → ℕ → Type 0
LeadsTo code m target = target ≡ target_of (course_in code m)

-- whether a stage holds a fetch that is not squashed
abbrev pub is_live : Option Fetch → Bool
is_live None = false
is_live (Some f) = not f.squashed

-- what was shown of the first four stages still holds, but for those that a branch or an interrupt marked since. It marks
-- the word in IF among them, so where that one is live, none was marked; the word in MEM is never marked
pub record StillShown (shown : Latches) (fetch rf alu mem : Option Fetch) : Type 0 where
  pub older : shown.mem ≡ stage_of mem
  pub younger : is_live fetch ≡ true → (shown.fetch ≡ stage_of fetch) × (shown.rf ≡ stage_of rf) × (shown.alu ≡ stage_of alu)

-- between turns
abbrev pub Shows : MachineState → Type 0
Shows m = StillShown m.shown m.fetch m.rf m.alu m.mem

-- whether the cache was asked for the fetch of the coming turn, and the stalled cycles left
abbrev pub Waits : {C : Type 0} → (C → List ℕ → Type 0) → C → MachineState → Wait → Type 0
Waits holds c m NotAsked = holds c m.past × m.stall ≡ cond (resident m.past m.next.address) 0 2
Waits holds c m (Missed n) = holds c (m.next.address ∷ m.past) × m.stall ≡ n × resident m.past m.next.address ≡ false

-- whether the fetch of the coming turn missed, once none of its stalled cycles is left
abbrev pub has_missed : Wait → Bool
has_missed NotAsked = false
has_missed (Missed n) = true

-- the code words and the input stay
pub record KeepsProgram {C : Type 0} (p p' : Pipe C) : Type 0 where
  pub code : p'.code ≡ p.code
  pub handler : p'.handler ≡ p.handler
  pub decoded : p'.decoded ≡ p.decoded
  pub input : p'.board.input ≡ p.board.input

-- it stands for the program after the request bits
pub record StandsFor {C : Type 0} (holds : C → List ℕ → Type 0) (t : Pipe C) (p : Program) (h : List Bool) : Type 0 where
  pub code : t.code.items ≡ p.user_words
  pub handler : t.handler.items ≡ p.handler_words
  pub decoded : code_in t.decoded ≡ code_of p
  pub input : t.board.input ≡ p.input
  pub waits : Waits holds t.cache (state_after p h) t.wait
  pub counts : t.counts ≡ (state_after p h).counts
  pub tied : Holds (code_of_pipe t) t (state_after p h)
  pub shows : Shows (state_after p h)
