-- What one instruction changes and decides, from the operands as they are seen and from what a load finds.
use Rattle.std.specs.Prelude.{ℕ, ℤ, suc, ◌+◌, ◌-◌, ◌%◌, ◌^◌, Bool, true, false, cond, Option, Some, None, List, length, slice_index, ltb}
use Rattle.std.specs.Int.{w32, cast_unsigned}
use Rattle.mx_isa.specs.declared.inst.Op.{Op}
use Rattle.mx_isa.specs.declared.inst.Op.TheVariants.{Mstart, Mstep, Dstep}
use Rattle.mx_isa.specs.declared.inst.Special.TheVariants.{Md}
use Rattle.mx_isa.specs.declared.inst.Inst.{Inst}
use Rattle.mx_isa.specs.declared.inst.Inst.TheVariants.{Load, Store, Branch, Compute, Addi, MoveFrom, MoveTo, Jspci}
use Rattle.mx_isa.specs.Arithmetic.{word_of, result_of, md_after, condition_holds}
use Rattle.mx_isa.specs.Words.{Words, reg, write}

-- a word that is stored at an address
pub record Sent : Type 0 where
  pub address : ℕ
  pub word : ℕ

-- what a load finds: a word, and whether it takes a byte of the input
pub record Found : Type 0 where
  pub word : ℕ
  pub takes : Bool

-- what an instruction changes: a register (0 for none), MD, a word that it stores, and whether it takes a byte of the input
pub record Change : Type 0 where
  pub dest : ℕ
  pub value : ℕ
  pub new_md : Option ℕ
  pub stores : Option Sent
  pub takes : Bool

-- where an instruction leads, if not to the next word, and whether it cancels the two words after it
pub record Decision : Type 0 where
  pub target : Option ℕ
  pub cancels : Bool

abbrev pub gives : ℕ → ℕ → Change
gives dest value = record { dest = dest; value = value; new_md = None; stores = None; takes = false }

abbrev pub unchanged : Change
unchanged = gives 0 0

-- the operations that read and write MD
abbrev pub op_uses_md : Op → Bool
op_uses_md Mstart = true
op_uses_md Mstep = true
op_uses_md Dstep = true
op_uses_md _ = false

-- a register's value and an offset
abbrev pub offset_by : Words → ℕ → ℤ → ℕ
offset_by r base offset = word_of (reg r base + cast_unsigned w32 offset)

-- an instruction at an address, from the registers that it sees, MD, and what a load finds at an address;
-- the saved PCs are the system's, so that user code moves nothing from or to them
abbrev pub change : Inst → ℕ → Words → ℕ → (ℕ → Found) → Change
change (Load base dest offset) at r md find =
    let found = find (offset_by r base offset) in
    record { dest = dest; value = found.word; new_md = None; stores = None; takes = found.takes }
change (Store base value offset) at r md find =
    record { dest = 0; value = 0; new_md = None; stores = Some (record { address = offset_by r base offset; word = reg r value }); takes = false }
change (Compute a dest b op) at r md find = record {
  dest = dest;
  value = result_of op (reg r a) (reg r b) md;
  new_md = cond (op_uses_md op) (Some (md_after op (reg r a) (reg r b) md)) None;
  stores = None;
  takes = false;
}
change (Addi a dest imm) at r md find = gives dest (offset_by r a imm)
change (MoveFrom dest Md) at r md find = gives dest md
change (MoveTo a Md) at r md find = record { dest = 0; value = 0; new_md = Some (reg r a); stores = None; takes = false }
change (Jspci a dest imm) at r md find = gives dest (at + 3)
change _ at r md find = unchanged

abbrev pub falls_through : Decision
falls_through = record { target = None; cancels = false }

-- code addresses are taken modulo 2 ^ 31
abbrev pub decides : Inst → ℕ → Words → Decision
decides (Branch a b condition squash by) at r =
    cond (condition_holds condition (reg r a) (reg r b))
    (record { target = Some ((at + cast_unsigned w32 by) % 2 ^ 31); cancels = false })
    (record { target = None; cancels = squash })
decides (Jspci a dest imm) at r = record { target = Some (offset_by r a imm % 2 ^ 31); cancels = false }
decides _ at r = falls_through

-- the next byte of an input of which some bytes were taken; all bits set where all are taken
abbrev pub next_byte : List ℕ → ℕ → Found
next_byte input taken =
    cond (ltb taken (length input)) (record { word = slice_index input taken; takes = true }) (record { word = 2 ^ 32 - 1; takes = false })

-- registers, MD, data, and the number of input bytes taken
pub record Core : Type 0 where
  pub regs : Words
  pub md : ℕ
  pub mem : Words
  pub taken : ℕ

-- how a memory answers loads (by its words, the number of input bytes taken, and the address) and takes stores, and which byte a store sends
pub record Bus : Type 0 where
  pub load : Words → ℕ → ℕ → Found
  pub store : Words → ℕ → ℕ → Words
  pub byte : ℕ → ℕ → Option ℕ

abbrev pub stored : Bus → Option Sent → Words → Words
stored bus None m = m
stored bus (Some s) m = bus.store m s.address s.word

abbrev pub sent : Bus → Option Sent → Option ℕ
sent bus None = None
sent bus (Some s) = bus.byte s.address s.word

-- the first, if it is given
abbrev pub or_kept : Option ℕ → ℕ → ℕ
or_kept None n = n
or_kept (Some m) n = m

abbrev pub apply : Bus → Change → Core → Core
apply bus c s = record {
  regs = write s.regs c.dest c.value;
  md = or_kept c.new_md s.md;
  mem = stored bus c.stores s.mem;
  taken = cond c.takes (suc s.taken) s.taken;
}

-- one instruction at an address, which sees these registers
abbrev pub act : Bus → Inst → ℕ → Words → Core → Core
act bus i at seen s = apply bus (change i at seen s.md (bus.load s.mem s.taken)) s
