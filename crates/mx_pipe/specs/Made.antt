-- What the stages make of an instruction.
use Rattle.std.specs.Prelude.{ℕ, Bool, true, false, cond, eqb, not, ◌&&◌, Option, Some, None}
use Rattle.mx_isa.specs.declared.inst.Special.TheVariants.{Md}
use Rattle.mx_isa.specs.declared.inst.Inst.{Inst}
use Rattle.mx_isa.specs.declared.inst.Inst.TheVariants.{Load, Store, Compute, MoveFrom, MoveTo}
use Rattle.mx_isa.specs.Arithmetic.{md_after}
use Rattle.mx_isa.specs.Effect.{Found, Sent}
use Rattle.mx_isa.specs.Views.{is_md}
use Rattle.mx_delay.specs.Delay.{idle}
use Rattle.mx_pcchain.specs.declared.chain.Chain.{Chain}
use Rattle.mx_pcchain.specs.Chain.{with_special}
use Rattle.mx_pipe.specs.declared.memory.Signal.{Signal}
use Rattle.mx_pipe.specs.declared.memory.Signal.TheVariants.{Byte, Halt}

-- an operand in ALU: the word that MEM passes on to a register, else what was read before; r0 takes none
abbrev pub passed : ℕ → ℕ → ℕ → ℕ → ℕ
passed to word r before = cond (not (eqb r 0) && eqb r to) word before

-- in user mode nothing is moved from the saved fetches: found in ALU, since the mode may be another one in WB
abbrev pub allowed : Bool → Inst → Inst
allowed user (MoveFrom d s) = cond (user && not (is_md s)) idle (MoveFrom d s)
allowed user i = i

-- the MD behind an instruction, from its operands and the MD before it
abbrev pub md_behind : Inst → ℕ → ℕ → ℕ → ℕ
md_behind (Compute x d y op) a b md = md_after op a b md
md_behind (MoveTo x Md) a b md = a
md_behind i a b md = md

-- MEM gives a load the word that it finds at the number that it made; other numbers stay
abbrev pub reached : Inst → ℕ → (ℕ → Found) → ℕ
reached (Load base d offset) number find = (find number).word
reached i number find = number

-- whether it takes a byte of the input
abbrev pub takes_byte : Inst → ℕ → (ℕ → Found) → Bool
takes_byte (Load base d offset) number find = (find number).takes
takes_byte i number find = false

-- the byte of a signal, and whether it is of a halt
abbrev pub byte_of : Signal → Option ℕ
byte_of (Byte b) = Some b
byte_of signal = None

abbrev pub halts : Signal → Bool
halts Halt = true
halts signal = false

-- a store sends its second operand to the number that it made
abbrev pub sends : Inst → ℕ → ℕ → Option Sent
sends (Store base value offset) number word = Some (record { address = number; word = word })
sends i number word = None

-- MD once a word was in MEM, from its number and the MD that it made; where there is no word, it stays
abbrev pub md_kept : Option Inst → ℕ → ℕ → ℕ → ℕ
md_kept (Some (Compute x d y op)) number made md = made
md_kept (Some (MoveTo x Md)) number made md = number
md_kept i number made md = md

-- the saved fetches once a word was in MEM
abbrev pub chain_kept : Bool → Inst → ℕ → Chain → Chain
chain_kept user (MoveTo x s) number c = cond user c (with_special c s number)
chain_kept user i number c = c
