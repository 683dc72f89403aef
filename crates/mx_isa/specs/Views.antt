-- The only functions by cases on an instruction besides its effect: what it reads, writes and reaches.
use Rattle.std.specs.Prelude.{ℕ, ℤ, Bool, true, false, eqb, not, ◌&&◌, ◌||◌, Option, Some, None}
use Rattle.mx_isa.specs.declared.inst.Special.{Special}
use Rattle.mx_isa.specs.declared.inst.Special.TheVariants.{Md}
use Rattle.mx_isa.specs.declared.inst.Inst.{Inst}
use Rattle.mx_isa.specs.declared.inst.Inst.TheVariants.{Load, Store, Branch, Compute, Addi, MoveFrom, MoveTo, Jspci, Jpc, Jpcrs, Halt}
use Rattle.mx_isa.specs.Words.{Words}
use Rattle.mx_isa.specs.Effect.{op_uses_md, offset_by}

-- the registers that it reads, 0 where it reads fewer than two
abbrev pub sources : Inst → ℕ × ℕ
sources (Load base dest offset) = (base, 0)
sources (Store base value offset) = (base, value)
sources (Branch a b condition squash by) = (a, b)
sources (Compute a dest b op) = (a, b)
sources (Addi a dest imm) = (a, 0)
sources (MoveTo a special) = (a, 0)
sources (Jspci a dest imm) = (a, 0)
sources _ = (0, 0)

-- the register that it writes, or 0
abbrev pub dest : Inst → ℕ
dest (Load base d offset) = d
dest (Compute a d b op) = d
dest (Addi a d imm) = d
dest (MoveFrom d special) = d
dest (Jspci a d imm) = d
dest _ = 0

abbrev pub is_md : Special → Bool
is_md Md = true
is_md _ = false

abbrev pub reads_md : Inst → Bool
reads_md (Compute a d b op) = op_uses_md op
reads_md (MoveFrom d special) = is_md special
reads_md _ = false

abbrev pub writes_md : Inst → Bool
writes_md (Compute a d b op) = op_uses_md op
writes_md (MoveTo a special) = is_md special
writes_md _ = false

-- register n, from 1 on, is a or b; or n is 32, the name of MD, and md holds
abbrev pub named : ℕ → ℕ → Bool → ℕ → Bool
named a b md n = (not (eqb n 0) && (eqb n a || eqb n b)) || (md && eqb n 32)

-- the names that it reads and writes: registers 1 to 31, and 32 for MD
abbrev pub reads : Inst → ℕ → Bool
reads i = named (sources i).0 (sources i).1 (reads_md i)

abbrev pub writes : Inst → ℕ → Bool
writes i = named (dest i) 0 (writes_md i)

-- the word that a load or a store reaches
pub record Access : Type 0 where
  pub stores : Bool
  pub base : ℕ
  pub offset : ℤ

abbrev pub access : Inst → Option Access
access (Load base d offset) = Some (record { stores = false; base = base; offset = offset })
access (Store base value offset) = Some (record { stores = true; base = base; offset = offset })
access _ = None

abbrev pub address : Access → Words → ℕ
address a r = offset_by r a.base a.offset

abbrev pub is_load : Inst → Bool
is_load (Load base d offset) = true
is_load _ = false

abbrev pub is_store : Inst → Bool
is_store (Store base value offset) = true
is_store _ = false

abbrev pub is_halt : Inst → Bool
is_halt Halt = true
is_halt _ = false

-- a branch, a jump, or a return from the handler
abbrev pub is_transfer : Inst → Bool
is_transfer (Branch a b condition squash by) = true
is_transfer (Jspci a d imm) = true
is_transfer Jpc = true
is_transfer Jpcrs = true
is_transfer _ = false
