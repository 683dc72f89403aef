-- The mnemonics.
use Rattle.std.specs.Prelude.{ℕ, List, [], ◌∷◌, Option, Some, None, codes, if◌then◌else◌}
use Rattle.std.specs.Borrow.{Bor}
use Rattle.std.specs.Str.{str_eq_ignore_ascii_case}
use Rattle.mx_isa.specs.declared.inst.Op.TheVariants.{Add, Sub, Subnc, And, Or, Xor, Bic, Rotlb, Mstep, Dstep}
use Rattle.mx_isa.specs.declared.inst.Cond.TheVariants.{Eq, Ne, Lt, Ge, Lo, Hs}
use Rattle.mx_lines.specs.declared.mnemonic.Mnemonic.{Mnemonic}
use Rattle.mx_lines.specs.declared.mnemonic.Mnemonic.TheVariants as m

-- each mnemonic; of two branches on one condition one swaps its registers
unfoldable pub mnemonics : List (List ℕ × Mnemonic)
mnemonics =
    (codes "add", m.Compute Add) ∷ (codes "sub", m.Compute Sub) ∷ (codes "subnc", m.Compute Subnc)
    ∷ (codes "and", m.Compute And) ∷ (codes "or", m.Compute Or) ∷ (codes "xor", m.Compute Xor)
    ∷ (codes "bic", m.Compute Bic) ∷ (codes "rotlb", m.Compute Rotlb)
    ∷ (codes "mstep", m.Compute Mstep) ∷ (codes "dstep", m.Compute Dstep)
    ∷ (codes "not", m.Not) ∷ (codes "mstart", m.Mstart) ∷ (codes "asr", m.Asr) ∷ (codes "sh", m.Sh)
    ∷ (codes "addi", m.Addi) ∷ (codes "mov", m.Mov) ∷ (codes "nop", m.Nop)
    ∷ (codes "movfrs", m.MoveFrom) ∷ (codes "movtos", m.MoveTo)
    ∷ (codes "ld", m.Load) ∷ (codes "st", m.Store) ∷ (codes "la", m.LoadAddress)
    ∷ (codes "beq", m.Branch Eq) ∷ (codes "bne", m.Branch Ne) ∷ (codes "blt", m.Branch Lt)
    ∷ (codes "bge", m.Branch Ge) ∷ (codes "blo", m.Branch Lo) ∷ (codes "bhs", m.Branch Hs)
    ∷ (codes "bgt", m.SwappedBranch Lt) ∷ (codes "ble", m.SwappedBranch Ge)
    ∷ (codes "bhi", m.SwappedBranch Lo) ∷ (codes "blos", m.SwappedBranch Hs)
    ∷ (codes "b", m.Goto) ∷ (codes "call", m.Call) ∷ (codes "callr", m.CallReg) ∷ (codes "jr", m.JumpReg)
    ∷ (codes "halt", m.Halt) ∷ (codes "jpc", m.System) ∷ (codes "jpcrs", m.System) ∷ []

-- a row of the program's table
abbrev pub row : Bor (List ℕ) × Mnemonic → List ℕ × Mnemonic
row r = (r.0.now, r.1)

-- the mnemonic among these that a name spells, in either case
abbrev pub spelled : List (List ℕ × Mnemonic) → List ℕ → Option Mnemonic
spelled [] name = None
spelled (row ∷ rows) name = if str_eq_ignore_ascii_case name row.0 then Some row.1 else spelled rows name

unfoldable pub mnemonic_named : List ℕ → Option Mnemonic
mnemonic_named name = spelled mnemonics name
