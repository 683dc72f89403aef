-- Which values the fields of an instruction may have.
use Rattle.std.specs.Prelude.{◌≡◌, ℕ, ◌≤◌, ◌<◌, ◌^◌, ℤ, pos, negsuc}
use Rattle.mx_isa.specs.declared.inst.Op.{Op}
use Rattle.mx_isa.specs.declared.inst.Op.TheVariants.{Add, Sub, Subnc, And, Or, Xor, Bic, Not, Rotlb, Mstart, Mstep, Dstep, Asr, Sh}
use Rattle.mx_isa.specs.declared.inst.Inst.{Inst}
use Rattle.mx_isa.specs.declared.inst.Inst.TheVariants.{Load, Store, Branch, Compute, Addi, MoveFrom, MoveTo, Jspci, Jpc, Jpcrs, Halt}

-- z is from - 2 ^ k to 2 ^ k - 1
abbrev pub IsSignedField : ℕ → ℤ → Type 0
IsSignedField k (pos n) = n < 2 ^ k
IsSignedField k (negsuc n) = n < 2 ^ k

-- a shift's count is at most 31, and a register that is not used is r0
abbrev pub OpFits : Op → ℕ → ℕ → Type 0
OpFits (Asr n) a b = (n ≤ 31) × (b ≡ 0)
OpFits (Sh n) a b = n ≤ 31
OpFits Not a b = b ≡ 0
OpFits Mstart a b = a ≡ 0
OpFits Add a b = Unit {0}
OpFits Sub a b = Unit {0}
OpFits Subnc a b = Unit {0}
OpFits And a b = Unit {0}
OpFits Or a b = Unit {0}
OpFits Xor a b = Unit {0}
OpFits Bic a b = Unit {0}
OpFits Rotlb a b = Unit {0}
OpFits Mstep a b = Unit {0}
OpFits Dstep a b = Unit {0}

-- what has a word
abbrev pub InstFits : Inst → Type 0
InstFits (Load base dest offset) = IsSignedField 16 offset
InstFits (Store base value offset) = IsSignedField 16 offset
InstFits (Branch a b cond squash by) = IsSignedField 15 by
InstFits (Compute a dest b op) = OpFits op a b
InstFits (Addi a dest imm) = IsSignedField 16 imm
InstFits (MoveFrom dest special) = Unit {0}
InstFits (MoveTo a special) = Unit {0}
InstFits (Jspci a dest imm) = IsSignedField 16 imm
InstFits Jpc = Unit {0}
InstFits Jpcrs = Unit {0}
InstFits Halt = Unit {0}
