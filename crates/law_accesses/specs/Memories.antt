-- How the data of a translation show the memory of the assembly, word by word, and what loads and stores leave.
use Rattle.std.specs.Prelude.{◌≡◌, ◌≢◌, ℕ, ◌≤◌, ◌<◌, ◌/◌, ◌^◌, Bool, true, false, Option, None}
use Rattle.mx_isa.specs.declared.board.TheConstants.{DATA_BASE, DATA_END}
use Rattle.mx_isa.specs.Words.{Words, put, reg}
use Rattle.mx_isa.specs.UserBus.{plain_word}
use Rattle.mx_isa.specs.Effect.{Core, Bus}
use Rattle.cc_plan.specs.declared.plan.Place.{Place}
use Rattle.cc_plan.specs.declared.plan.Place.TheVariants.{Byte, Turned, Far}
use Rattle.cc_plan.specs.Places.{IsAt}
use Rattle.cc_meaning.specs.declared.value.Value.{Value}
use Rattle.cc_meaning.specs.declared.value.Value.TheVariants.{Code}
use Rattle.cc_meaning.specs.declared.layout.Layout.{Layout}
use Rattle.cc_meaning.specs.Layouts.{is_memory}
use Rattle.cc_meaning.specs.States.{State, memory_word}
use Rattle.cc_operations.specs.declared.between.TheConstants.{FIRST, SECOND}
use Rattle.law_operations.specs.Runs.{HoldsWords, HoldsFirst, ShowsValue, IsNamed}

-- the number of a word of data
abbrev pub IsData : ℕ → Type 0
IsData n = (DATA_BASE ≤ n) × (n < DATA_END)

-- loads of words of data find what they hold, and stores replace it
pub record KeepsData (bus : Bus) : Type 0 where
  pub finds : (m : Words) (taken n : ℕ) → IsData n → bus.load m taken n ≡ plain_word (m n)
  pub takes : (m : Words) (n v : ℕ) → IsData n → bus.store m n v ≡ put m n v

-- a value that words show: no word shows a code address
abbrev pub is_shown : Value → Bool
is_shown (Code item) = false
is_shown _ = true

-- a word shows a value, if that is no code address, and any word may stand for that
abbrev pub ShowsData : Value → ℕ → Type 0
ShowsData v w = is_shown v ≡ true → ShowsValue v w

-- where a byte is the program's, the word that it is in shows that word of the assembly's memory: elsewhere the translation has words of
-- its own. All data are words
pub record ShowsMemory (l : Layout) (a : State) (mem : Words) : Type 0 where
  pub shown : (address : ℕ) → is_memory l address ≡ true → ShowsData (memory_word a address) (mem (address / 4))
  pub words : (n : ℕ) → IsData n → mem n < 2 ^ 32

-- a place that lines can reach: its offset is a word, and its registers are not r1 and r26, which lines write
abbrev pub IsReachable : Place → Type 0
IsReachable (Byte base words byte) = IsNamed base × (words < 2 ^ 32)
IsReachable (Turned base words by) = IsNamed base × (words < 2 ^ 32) × IsNamed by
IsReachable (Far base bytes) = IsNamed base × (bytes < 2 ^ 32)

-- before a load or a store: data show the assembly's memory, lines can reach the place, and it is that of a byte of the program's
pub record Access (bus : Bus) (first : Option ℕ) (place : Place) (address : ℕ) (l : Layout) (a : State) (s : Core) : Type 0 where
  pub keeps : KeepsData bus
  pub words : HoldsWords s.regs
  pub known : HoldsFirst first s.regs
  pub shown : ShowsMemory l a s.mem
  pub reachable : IsReachable place
  pub at : IsAt (reg s.regs) place address
  pub within : is_memory l address ≡ true

-- data show the assembly's memory after a store to the word with this number. Each other word, each register but r1, r26 and that which
-- takes a word, and MD and the input, are as they were
pub record Stored (l : Layout) (a : State) (number word : ℕ) (first : Option ℕ) (before after : Core) : Type 0 where
  pub shown : ShowsMemory l a after.mem
  pub others : (n : ℕ) → n ≢ number → after.mem n ≡ before.mem n
  pub known : HoldsFirst first after.regs
  pub kept : (n : ℕ) → n ≢ FIRST → n ≢ SECOND → n ≢ word → reg after.regs n ≡ reg before.regs n
  pub md : after.md ≡ before.md
  pub taken : after.taken ≡ before.taken
  pub words : HoldsWords after.regs

-- what is known of r1 after a store of a byte: where a register tells which byte, r1 turns the word back
abbrev pub known_after_byte : Option ℕ → Place → Option ℕ
known_after_byte first (Byte base words byte) = first
known_after_byte first place = None
