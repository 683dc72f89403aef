-- What the system may do besides user code: it moves the saved fetches, and pops them.
use Rattle.std.specs.Prelude.{ℕ, ◌+◌, Bool, true, false, cond, ◌||◌}
use Rattle.std.specs.Int.{w32, cast_unsigned}
use Rattle.mx_isa.specs.declared.inst.Special.TheVariants.{Md}
use Rattle.mx_isa.specs.declared.inst.Inst.{Inst}
use Rattle.mx_isa.specs.declared.inst.Inst.TheVariants.{Load, Store, Branch, Compute, Addi, MoveFrom, MoveTo, Jspci, Jpc, Jpcrs}
use Rattle.mx_isa.specs.Arithmetic.{word_of, result_of, condition_holds}
use Rattle.mx_isa.specs.Words.{Words, reg, write}
use Rattle.mx_isa.specs.Effect.{Found, Change, change, gives}
use Rattle.mx_isa.specs.Views.{dest, is_load, is_md}
use Rattle.mx_pcchain.specs.declared.chain.Chain.{Chain}
use Rattle.mx_pcchain.specs.Chain.{special, with_special}

-- what an instruction changes in either mode; in system mode it reads the saved fetches too
abbrev pub system_change : Bool → Chain → Inst → ℕ → Words → ℕ → (ℕ → Found) → Change
system_change user c (MoveFrom d s) at r md find = cond (user || is_md s) (change (MoveFrom d s) at r md find) (gives d (special c s))
system_change user c i at r md find = change i at r md find

-- the saved fetches after it
abbrev pub moved : Bool → Inst → Words → Chain → Chain
moved user (MoveTo a s) r c = cond user c (with_special c s (reg r a))
moved user i r c = c

abbrev pub pops : Inst → Bool
pops Jpc = true
pops Jpcrs = true
pops _ = false

-- whether it also brings back the other mode
abbrev pub restores : Inst → Bool
restores Jpcrs = true
restores _ = false

-- a load is not seen by the word directly behind it, which sees the old value of the register; register 0 for none
pub record Slot : Type 0 where
  pub register : ℕ
  pub value : ℕ

abbrev pub no_slot : Slot
no_slot = record { register = 0; value = 0 }

-- the slot of an instruction that commits, by the registers before it
abbrev pub slot_of : Inst → Words → Slot
slot_of i r = cond (is_load i) (record { register = dest i; value = reg r (dest i) }) no_slot

-- the registers as the next word sees them
abbrev pub seen : Slot → Words → Words
seen slot r = write r slot.register slot.value

-- the number that a trace shows of an instruction at an address: from the mode, the saved fetches, its operands and MD
abbrev pub number_of : Bool → Chain → Inst → ℕ → ℕ → ℕ → ℕ → ℕ
number_of user c (Load base d offset) at a b md = word_of (a + cast_unsigned w32 offset)
number_of user c (Store base value offset) at a b md = word_of (a + cast_unsigned w32 offset)
number_of user c (Branch x y condition squash by) at a b md = cond (condition_holds condition a b) 1 0
number_of user c (Compute x d y op) at a b md = result_of op a b md
number_of user c (Addi x d imm) at a b md = word_of (a + cast_unsigned w32 imm)
number_of user c (MoveFrom d Md) at a b md = md
number_of user c (MoveFrom d s) at a b md = cond user 0 (special c s)
number_of user c (MoveTo x s) at a b md = a
number_of user c (Jspci x d imm) at a b md = at + 3
number_of user c _ at a b md = 0
