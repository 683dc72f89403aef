-- What instructions of a translation do, one after the other, and what registers show after them.
use Rattle.std.specs.Prelude.{◌≡◌, ◌≢◌, ℕ, ◌<◌, ◌/◌, ◌%◌, ◌^◌, ◌==◌, Bool, false, cond, List, [], ◌∷◌, Option, Some, None}
use Rattle.mx_isa.specs.Words.{Words, reg, write}
use Rattle.mx_isa.specs.Effect.{Core, Bus, act}
use Rattle.cc_lines.specs.Conditions.{holds}
use Rattle.cc_lines.specs.declared.instruction.Source.{Source}
use Rattle.cc_lines.specs.declared.instruction.Source.TheVariants.{Register, Number as Word}
use Rattle.cc_emit.specs.declared.line.Line.{Line}
use Rattle.cc_emit.specs.declared.line.Line.TheVariants.{Plain as PlainLine, Transfer as TransferLine, Constant, Mark}
use Rattle.cc_emit.specs.declared.line.Plain.{Plain}
use Rattle.cc_emit.specs.declared.line.Target.TheVariants.{Skip}
use Rattle.cc_emit.specs.declared.line.Transfer.{Transfer}
use Rattle.cc_emit.specs.declared.line.Transfer.TheVariants.{Branch}
use Rattle.cc_meaning.specs.declared.value.Value.{Value}
use Rattle.cc_meaning.specs.declared.value.Value.TheVariants.{Number, Code, Partial}
use Rattle.cc_operations.specs.declared.between.TheConstants.{FIRST, SECOND}
use Rattle.law_emit.specs.Statements.{instruction}

-- each instruction sees the registers that those before it left, and none depends on its own address
abbrev pub ran : Bus → List Plain → Core → Core
ran bus [] s = s
ran bus (plain ∷ rest) s = ran bus rest (act bus (instruction plain) 0 s.regs s)

-- the number of the place of the translation's own that a branch goes to, where it is taken
abbrev pub skipped : Transfer → Core → Option ℕ
skipped (Branch condition a b (Skip n)) s = cond (holds condition (reg s.regs a) (reg s.regs b)) (Some n) None
skipped _ s = None

-- a line is the label of this place
abbrev pub marks : ℕ → Line → Bool
marks n (Mark (Skip m)) = n == m
marks n _ = false

-- lines one after the other. After a branch to a place of the translation's own, lines do nothing up to the label of that place. A
-- number is put into its register, wherever it is held
abbrev pub ran_from : Bus → Option ℕ → List Line → Core → Core
ran_from bus skips [] s = s
ran_from bus (Some n) (line ∷ rest) s = ran_from bus (cond (marks n line) None (Some n)) rest s
ran_from bus None (PlainLine plain ∷ rest) s = ran_from bus None rest (act bus (instruction plain) 0 s.regs s)
ran_from bus None (Constant value rd ∷ rest) s = ran_from bus None rest (record s { regs = write s.regs rd value })
ran_from bus None (TransferLine transfer ∷ rest) s = ran_from bus (skipped transfer s) rest s
ran_from bus None (_ ∷ rest) s = ran_from bus None rest s

abbrev pub ran_lines : Bus → List Line → Core → Core
ran_lines bus code s = ran_from bus None code s

-- each register holds a word
abbrev pub HoldsWords : Words → Type 0
HoldsWords r = (n : ℕ) → reg r n < 2 ^ 32

-- r1 holds the number that it is known to hold
abbrev pub HoldsFirst : Option ℕ → Words → Type 0
HoldsFirst first r = (n : ℕ) → first ≡ Some n → reg r FIRST ≡ n

-- a byte that is not specified may be any
abbrev pub ShowsByte : Option ℕ → ℕ → Type 0
ShowsByte (Some byte) b = b ≡ byte
ShowsByte None b = Unit {0}

-- a word that shows a value: no word is known to show a code address
abbrev pub ShowsValue : Value → ℕ → Type 0
ShowsValue (Number n) w = w ≡ n
ShowsValue (Code item) w = ⊥
ShowsValue (Partial bytes) w =
    ShowsByte bytes.first (w / 2 ^ 24 % 256) × ShowsByte bytes.second (w / 2 ^ 16 % 256)
    × ShowsByte bytes.third (w / 2 ^ 8 % 256) × ShowsByte bytes.fourth (w % 256)

-- register d shows a value, unless it is r0. Each other register but r26, and r0, has what it had, and so have MD, data and input.
-- All registers hold words again
pub record Gives (d : ℕ) (value : Value) (before after : Core) : Type 0 where
  pub given : d ≢ 0 → ShowsValue value (reg after.regs d)
  pub kept : (n : ℕ) → (n ≡ d → n ≡ 0) → n ≢ SECOND → reg after.regs n ≡ reg before.regs n
  pub md : after.md ≡ before.md
  pub mem : after.mem ≡ before.mem
  pub taken : after.taken ≡ before.taken
  pub words : HoldsWords after.regs

-- the same, where r1 may take a number besides: what is known of r1 after it holds
pub record Leaves (d : ℕ) (value : Value) (first : Option ℕ) (before after : Core) : Type 0 where
  pub given : d ≢ 0 → ShowsValue value (reg after.regs d)
  pub known : HoldsFirst first after.regs
  pub kept : (n : ℕ) → (n ≡ d → n ≡ 0) → n ≢ FIRST → n ≢ SECOND → reg after.regs n ≡ reg before.regs n
  pub md : after.md ≡ before.md
  pub mem : after.mem ≡ before.mem
  pub taken : after.taken ≡ before.taken
  pub words : HoldsWords after.regs

-- a register that compiled code may name: translations use r1 and r26 between its instructions
abbrev pub IsNamed : ℕ → Type 0
IsNamed n = (n ≢ FIRST) × (n ≢ SECOND)

-- a second operand is such a register or a word
abbrev pub IsOperand : Source → Type 0
IsOperand (Register r) = IsNamed r.0
IsOperand (Word n) = n < 2 ^ 32
