-- Calls and jumps by a pointer: the word that it points to holds a code address.
use Rattle.std.specs.Prelude.{◌≡◌, ℕ, ◌<◌, ◌/◌, ◌^◌, Option}
use Rattle.mx_isa.specs.Words.{Words, reg}
use Rattle.mx_isa.specs.Effect.{Core, Bus}
use Rattle.cc_plan.specs.declared.plan.Place.{Place}
use Rattle.cc_plan.specs.Places.{IsAt}
use Rattle.cc_meaning.specs.declared.value.Value.TheVariants.{Code}
use Rattle.cc_meaning.specs.States.{State, memory_word}
use Rattle.law_operations.specs.Runs.{HoldsWords, HoldsFirst}
use Rattle.law_accesses.specs.Memories.{IsData, KeepsData, IsReachable}

-- before a call or a jump: lines can reach the place, and it is that of a byte of data. The byte may be one of a descriptor, which no load
-- reaches
pub record Pointer (bus : Bus) (first : Option ℕ) (place : Place) (address : ℕ) (s : Core) : Type 0 where
  pub keeps : KeepsData bus
  pub words : HoldsWords s.regs
  pub known : HoldsFirst first s.regs
  pub holds : (n : ℕ) → IsData n → s.mem n < 2 ^ 32
  pub reachable : IsReachable place
  pub at : IsAt (reg s.regs) place address
  pub within : IsData (address / 4)

-- where the assembly's memory has the code address of an item in the word of a byte, that word of data holds the item's code address here
abbrev pub ShowsCode : (ℕ → ℕ) → State → ℕ → Words → Type 0
ShowsCode codes a address mem = (item : ℕ) → memory_word a address ≡ Code item → mem (address / 4) ≡ codes item
