-- The table of instruction words, a line for each row.
use Rattle.std.specs.Prelude.{◌≡◌, ℕ, ◌+◌, ◌-◌, ◌*◌, ◌^◌, ℤ, pos, negsuc, Bool, true, false, suc}
use Rattle.mx_isa.specs.Registers.{IsRegister}
use Rattle.mx_isa.specs.Fields.{InstFits}
use Rattle.mx_isa.specs.declared.inst.Cond.{Cond}
use Rattle.mx_isa.specs.declared.inst.Cond.TheVariants.{Eq, Ne, Lt, Ge, Lo, Hs}
use Rattle.mx_isa.specs.declared.inst.Special.{Special}
use Rattle.mx_isa.specs.declared.inst.Special.TheVariants.{Md, Pc1, Pc2, Pc3}
use Rattle.mx_isa.specs.declared.inst.Op.{Op}
use Rattle.mx_isa.specs.declared.inst.Op.TheVariants.{Add, Sub, Subnc, And, Or, Xor, Bic, Not, Rotlb, Mstart, Mstep, Dstep, Asr, Sh}
use Rattle.mx_isa.specs.declared.inst.Inst.{Inst}
use Rattle.mx_isa.specs.declared.inst.Inst.TheVariants.{Load, Store, Branch, Compute, Addi, MoveFrom, MoveTo, Jspci, Jpc, Jpcrs, Halt}

-- a word by its fields: the type in bits 31 and 30, the opcode in 29 to 27, two registers in 26 to 22 and 21 to 17, the rest in 16 to 0
abbrev pub assembled : ℕ → ℕ → ℕ → ℕ → ℕ → ℕ
assembled type op first second rest = type * 2 ^ 30 + op * 2 ^ 27 + first * 2 ^ 22 + second * 2 ^ 17 + rest

-- a signed number in k bits
abbrev pub signed_bits : ℕ → ℤ → ℕ
signed_bits k (pos n) = n
signed_bits k (negsuc n) = 2 ^ k - suc n

-- the opcode of a condition
abbrev pub number_of_cond : Cond → ℕ
number_of_cond Eq = 0
number_of_cond Ne = 1
number_of_cond Lt = 2
number_of_cond Ge = 3
number_of_cond Lo = 4
number_of_cond Hs = 5

-- the function of a special word
abbrev pub number_of_special : Special → ℕ
number_of_special Md = 0
number_of_special Pc1 = 1
number_of_special Pc2 = 2
number_of_special Pc3 = 3

-- the opcode of an operation: 1 for the shifts
abbrev pub opcode_of : Op → ℕ
opcode_of (Asr n) = 1
opcode_of (Sh n) = 1
opcode_of _ = 0

-- the function of an operation, in bits 11 to 0
abbrev pub function_of : Op → ℕ
function_of Add = 0
function_of Sub = 1
function_of Subnc = 2
function_of And = 3
function_of Or = 4
function_of Xor = 5
function_of Bic = 6
function_of Not = 7
function_of Rotlb = 8
function_of Mstart = 9
function_of Mstep = 10
function_of Dstep = 11
function_of (Asr n) = n
function_of (Sh n) = 256 + n

-- bit 16 of a branch
abbrev pub squash_bit : Bool → ℕ
squash_bit true = 1
squash_bit false = 0

-- the table: the word of each row; a destination of type 1 stands in bits 16 to 12
abbrev pub word_of_row : Inst → ℕ
word_of_row (Branch a b condition squash by) = assembled 0 (number_of_cond condition) a b (squash_bit squash * 2 ^ 16 + signed_bits 16 by)
word_of_row (Compute a dest b op) = assembled 1 (opcode_of op) a b (dest * 2 ^ 12 + function_of op)
word_of_row (MoveFrom dest special) = assembled 1 2 0 0 (dest * 2 ^ 12 + number_of_special special)
word_of_row (MoveTo a special) = assembled 1 3 a 0 (number_of_special special)
word_of_row (Load base dest offset) = assembled 2 0 base dest (signed_bits 17 offset)
word_of_row (Store base value offset) = assembled 2 1 base value (signed_bits 17 offset)
word_of_row (Addi a dest imm) = assembled 3 0 a dest (signed_bits 17 imm)
word_of_row (Jspci a dest imm) = assembled 3 1 a dest (signed_bits 17 imm)
word_of_row Jpc = assembled 3 2 0 0 0
word_of_row Jpcrs = assembled 3 3 0 0 0
word_of_row Halt = assembled 3 4 0 0 0

-- its registers are registers
abbrev pub HasRegisters : Inst → Type 0
HasRegisters (Branch a b condition squash by) = IsRegister a × IsRegister b
HasRegisters (Compute a dest b op) = IsRegister a × IsRegister b × IsRegister dest
HasRegisters (MoveFrom dest special) = IsRegister dest
HasRegisters (MoveTo a special) = IsRegister a
HasRegisters (Load base dest offset) = IsRegister base × IsRegister dest
HasRegisters (Store base value offset) = IsRegister base × IsRegister value
HasRegisters (Addi a dest imm) = IsRegister a × IsRegister dest
HasRegisters (Jspci a dest imm) = IsRegister a × IsRegister dest
HasRegisters Jpc = Unit {0}
HasRegisters Jpcrs = Unit {0}
HasRegisters Halt = Unit {0}

-- the word spells the instruction: the instruction fits, its registers are 0 to 31, and the word is that of its row
pub record Codes (inst : Inst) (word : ℕ) : Type 0 where
  pub fits : InstFits inst
  pub registers : HasRegisters inst
  pub word_is : word ≡ word_of_row inst
