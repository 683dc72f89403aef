-- The instruction that a word spells, by its fields.
use Rattle.std.specs.Prelude.{ℕ, ◌-◌, ◌/◌, ◌%◌, ◌^◌, ◌==◌, ◌&&◌, ℤ, pos, negsuc, suc, nat_lt, nat_le, if◌then◌else◌, Option, Some, None}
use Rattle.mx_isa.specs.declared.inst.Cond.{Cond}
use Rattle.mx_isa.specs.declared.inst.Cond.TheVariants.{Eq, Ne, Lt, Ge, Lo, Hs}
use Rattle.mx_isa.specs.declared.inst.Special.{Special}
use Rattle.mx_isa.specs.declared.inst.Special.TheVariants.{Md, Pc1, Pc2, Pc3}
use Rattle.mx_isa.specs.declared.inst.Op.{Op}
use Rattle.mx_isa.specs.declared.inst.Op.TheVariants.{Add, Sub, Subnc, And, Or, Xor, Bic, Not, Rotlb, Mstart, Mstep, Dstep, Asr, Sh}
use Rattle.mx_isa.specs.declared.inst.Inst.{Inst}
use Rattle.mx_isa.specs.declared.inst.Inst.TheVariants.{Load, Store, Branch, Compute, Addi, MoveFrom, MoveTo, Jspci, Jpc, Jpcrs, Halt}

-- `width` bits of a word from bit `low` on
abbrev pub field : ℕ → ℕ → ℕ → ℕ
field low width word = word / 2 ^ low % 2 ^ width

-- the signed number that k bits stand for
abbrev pub signed_of : ℕ → ℕ → ℤ
signed_of k n = if nat_lt n (2 ^ (k - 1)) then pos n else negsuc (2 ^ k - suc n)

-- rows of type 2
abbrev pub memory_row : ℕ → ℕ → ℕ → ℕ → Option Inst
memory_row op first second rest =
    if op == 0 then Some (Load first second (signed_of 17 rest))
    else (if op == 1 then Some (Store first second (signed_of 17 rest)) else None)

-- rows of type 3
abbrev pub immediate_row : ℕ → ℕ → ℕ → ℕ → Option Inst
immediate_row op first second rest =
    if op == 0 then Some (Addi first second (signed_of 17 rest))
    else (if op == 1 then Some (Jspci first second (signed_of 17 rest))
    else (if first == 0 && (second == 0 && rest == 0) then
    (if op == 2 then Some Jpc else (if op == 3 then Some Jpcrs else (if op == 4 then Some Halt else None)))
    else None))

-- the condition of an opcode
abbrev pub cond_row : ℕ → Option Cond
cond_row op =
    if op == 0 then Some Eq
    else (if op == 1 then Some Ne
    else (if op == 2 then Some Lt
    else (if op == 3 then Some Ge
    else (if op == 4 then Some Lo
    else (if op == 5 then Some Hs else None)))))

-- the special word of a function
abbrev pub special_row : ℕ → Option Special
special_row n =
    if n == 0 then Some Md
    else (if n == 1 then Some Pc1
    else (if n == 2 then Some Pc2
    else (if n == 3 then Some Pc3 else None)))

-- operations of opcode 0
abbrev pub plain_op_row : ℕ → ℕ → ℕ → Option Op
plain_op_row function first second =
    if function == 0 then Some Add
    else (if function == 1 then Some Sub
    else (if function == 2 then Some Subnc
    else (if function == 3 then Some And
    else (if function == 4 then Some Or
    else (if function == 5 then Some Xor
    else (if function == 6 then Some Bic
    else (if function == 7 then (if second == 0 then Some Not else None)
    else (if function == 8 then Some Rotlb
    else (if function == 9 then (if first == 0 then Some Mstart else None)
    else (if function == 10 then Some Mstep
    else (if function == 11 then Some Dstep else None)))))))))))

-- operations of opcode 1
abbrev pub shift_row : ℕ → ℕ → Option Op
shift_row function second =
    if nat_lt function 32 then (if second == 0 then Some (Asr function) else None)
    else (if nat_le 256 function && nat_lt function 288 then Some (Sh (function - 256)) else None)

abbrev pub branch_with : ℕ → ℕ → ℕ → Option Cond → Option Inst
branch_with first second rest None = None
branch_with first second rest (Some condition) = Some (Branch first second condition (nat_le (2 ^ 16) rest) (signed_of 16 (rest % 2 ^ 16)))

-- rows of type 0
abbrev pub branch_row : ℕ → ℕ → ℕ → ℕ → Option Inst
branch_row op first second rest = branch_with first second rest (cond_row op)

abbrev pub compute_with : ℕ → ℕ → ℕ → Option Op → Option Inst
compute_with first second rest None = None
compute_with first second rest (Some op) = Some (Compute first (rest / 2 ^ 12) second op)

abbrev pub from_with : ℕ → ℕ → ℕ → Option Special → Option Inst
from_with first second rest None = None
from_with first second rest (Some special) =
    if first == 0 && second == 0 then Some (MoveFrom (rest / 2 ^ 12) special) else None

abbrev pub to_with : ℕ → ℕ → Option Special → Option Inst
to_with first second None = None
to_with first second (Some special) = if second == 0 then Some (MoveTo first special) else None

-- rows of type 1
abbrev pub compute_row : ℕ → ℕ → ℕ → ℕ → Option Inst
compute_row op first second rest =
    if op == 0 then compute_with first second rest (plain_op_row (rest % 2 ^ 12) first second)
    else (if op == 1 then compute_with first second rest (shift_row (rest % 2 ^ 12) second)
    else (if op == 2 then from_with first second rest (special_row (rest % 2 ^ 12))
    else (if op == 3 then to_with first second (special_row rest) else None)))

-- the instruction of the fields, if a row has them
abbrev pub row_of : ℕ → ℕ → ℕ → ℕ → ℕ → Option Inst
row_of type op first second rest =
    if type == 0 then branch_row op first second rest
    else (if type == 1 then compute_row op first second rest
    else (if type == 2 then memory_row op first second rest
    else (if type == 3 then immediate_row op first second rest else None)))

-- the instruction that a word spells, if it spells one; nothing from 2 ^ 32 on
abbrev pub inst_of : ℕ → Option Inst
inst_of word = row_of (word / 2 ^ 30) (field 27 3 word) (field 22 5 word) (field 17 5 word) (field 0 17 word)
