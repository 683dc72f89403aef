-- Sources whose canonical text reads back.
use Rattle.std.specs.Prelude.{◌≡◌, ℕ, ◌+◌, ◌^◌, ◌≤◌, ◌<◌, Bool, true, false, ◌&&◌, List, [], ◌∷◌, length, All, None, Result, MatchResult, is_some}
use Rattle.std.specs.List.{list_all}
use Rattle.mx_isa.specs.declared.board.TheConstants.{DATA_BASE, DATA_END}
use Rattle.mx_lex.specs.Bytes.{begins_name, continues_name}
use Rattle.mx_isa.specs.Registers.{IsRegister}
use Rattle.mx_isa.specs.declared.inst.Inst.{Inst}
use Rattle.mx_isa.specs.declared.inst.Inst.TheVariants.{Load, Store, Compute, Addi, MoveFrom, MoveTo}
use Rattle.mx_source.specs.declared.statement.Label.{Label}
use Rattle.mx_source.specs.declared.statement.Label.TheVariants as label
use Rattle.mx_source.specs.declared.statement.Value.{Value}
use Rattle.mx_source.specs.declared.statement.Value.TheVariants as values
use Rattle.mx_source.specs.declared.statement.Statement.{Statement}
use Rattle.mx_source.specs.declared.statement.Statement.TheVariants.{Plain, LaCode, Branch, Call, CallReg, JumpReg, Halt}
use Rattle.mx_source.specs.SourceValue.{SourceValue, IsSource}
use Rattle.mx_source.specs.Printed.{printed}
use Rattle.mx_lines.specs.declared.fault.AsmError.{AsmError}
use Rattle.mx_lines.specs.declared.fault.AsmError.TheVariants.{Memory}
use Rattle.mx_lines.specs.Operands.{label_named}
use Rattle.mx_asm.specs.Directives.{is_dotted}
use Rattle.mx_asm.specs.Texts.{text_fault, source_of}

-- a name of the language: a letter, `_` or `.`, then letters, digits, `_` and `.`
abbrev pub is_name : List ℕ → Bool
is_name [] = false
is_name (b ∷ bytes) = begins_name b && list_all continues_name bytes

-- a name for a label: it does not begin with `.`, and has at most 200 bytes
pub record IsLabelName (name : List ℕ) : Type 0 where
  pub spelled : is_name name ≡ true
  pub undotted : is_dotted name ≡ false
  pub short : length name ≤ 200

-- a data label names one of so many data words, or the address behind them
abbrev pub IsWithin : ℕ → Label → Type 0
IsWithin count (label.Code i) = Unit {0}
IsWithin count (label.Data a) = a ≤ DATA_BASE + count

-- the registers of an instruction that is a statement
abbrev pub HasRegisters : Inst → Type 0
HasRegisters (Load base dest offset) = IsRegister base × IsRegister dest
HasRegisters (Store base value offset) = IsRegister base × IsRegister value
HasRegisters (Compute a dest b op) = IsRegister a × IsRegister dest × IsRegister b
HasRegisters (Addi a dest imm) = IsRegister a × IsRegister dest
HasRegisters (MoveFrom dest special) = IsRegister dest
HasRegisters (MoveTo a special) = IsRegister a
HasRegisters _ = Unit {0}

-- the registers of a statement
abbrev pub NamesRegisters : Statement → Type 0
NamesRegisters (Plain inst) = HasRegisters inst
NamesRegisters (LaCode dest target) = IsRegister dest
NamesRegisters (Branch a b cond target) = IsRegister a × IsRegister b
NamesRegisters (Call dest target) = IsRegister dest
NamesRegisters (CallReg a dest) = IsRegister a × IsRegister dest
NamesRegisters (JumpReg a) = IsRegister a
NamesRegisters Halt = Unit {0}

-- a word of 32 bits, or a place of code
abbrev pub IsWord : Value → Type 0
IsWord (values.Int word) = word < 2 ^ 32
IsWord (values.Code i) = Unit {0}

-- a source that its canonical text can say: labels have names of the language, and none stands behind the data
pub record IsPrintable (s : SourceValue) : Type 0 where
  pub source : IsSource s
  pub registers : All NamesRegisters s.statements
  pub words : All IsWord s.user_data
  pub names : All (λ (p : List ℕ × Label). IsLabelName p.0) s.labels
  pub within : All (λ (p : List ℕ × Label). IsWithin (length s.user_data) p.1) s.labels

-- the same program: lines and the order of labels may differ
pub record IsSameProgram (s t : SourceValue) : Type 0 where
  pub statements : t.statements ≡ s.statements
  pub user_data : t.user_data ≡ s.user_data
  pub input : is_some t.input ≡ is_some s.input
  pub labels : (name : List ℕ) → label_named t.labels name ≡ label_named s.labels name

-- the canonical text of a source has no fault, and reads as the same program
pub record ReadsBack (s : SourceValue) : Type 0 where
  pub faultless : text_fault DATA_BASE DATA_END (printed s) ≡ None
  pub same : IsSameProgram s (source_of DATA_BASE (printed s))

-- what assembling a text answers where it is the canonical text of a printable source: the same program, or that memory ran out
abbrev pub ReadsPrinted : List ℕ → Result SourceValue AsmError → Type 0
ReadsPrinted text result = (s : SourceValue) → IsPrintable s → text ≡ printed s → MatchResult result (IsSameProgram s) (λ e. e ≡ Memory)
