-- The forms of a statement, and what stands in the places of its operands.
use Rattle.std.specs.Prelude.{ℕ, Bool, true, false, ◌&&◌, not, is_none, List, [], ◌∷◌, zip, Option, Some, if◌then◌else◌}
use Rattle.mx_isa.specs.declared.board.TheConstants.{MAX_DATA_WORDS}
use Rattle.mx_isa.specs.declared.inst.Special.{Special}
use Rattle.mx_isa.specs.declared.inst.Special.TheVariants.{Pc1, Pc2, Pc3}
use Rattle.mx_asm.specs.declared.position.Section.{Section}
use Rattle.mx_asm.specs.declared.position.Section.TheVariants as section
use Rattle.mx_asm.specs.declared.directive.Directive.{Directive}
use Rattle.mx_asm.specs.declared.directive.Directive.TheVariants as d
use Rattle.mx_lines.specs.declared.mnemonic.Mnemonic.{Mnemonic}
use Rattle.mx_lines.specs.declared.mnemonic.Mnemonic.TheVariants as m
use Rattle.mx_lines.specs.Words.{Word, Name, Number, Comma, Open, Close, Hash}
use Rattle.mx_lines.specs.Operands.{register_named, special_named, in_range}
use Rattle.mx_lines.specs.Mnemonics.{mnemonic_named}
use Rattle.mx_asm.specs.Directives.{is_dotted, directive_named}

-- what may stand in a place behind a mnemonic or a directive
pub data Role : Type 0 where
  -- a register
  Register : Role
  -- a special name
  SpecialName : Role
  -- a number from -65536 to 65535, behind a `#`
  Immediate : Role
  -- a number from 0 to 31, behind a `#`
  ShiftCount : Role
  -- a number from -65536 to 65535, or the name of a data label
  Offset : Role
  -- the name of a code label
  CodeName : Role
  -- the name of any label
  AnyName : Role
  -- a number from -2147483648 to 4294967295, or the name of any label
  DataValue : Role
  -- a number from 0 to 65280
  WordCount : Role
  -- this mark
  Mark : (mark : Word) → Role

abbrev pub one : Role → List Role
one r = r ∷ []

abbrev pub two : Role → Role → List Role
two r s = r ∷ Mark Comma ∷ s ∷ []

abbrev pub three : Role → Role → Role → List Role
three r s t = r ∷ Mark Comma ∷ s ∷ Mark Comma ∷ t ∷ []

-- `R,#NUMBER,R`
abbrev pub with_number : Role → List Role
with_number number = Register ∷ Mark Comma ∷ Mark Hash ∷ number ∷ Mark Comma ∷ Register ∷ []

-- `O[R],R`
abbrev pub access : List Role
access = Offset ∷ Mark Open ∷ Register ∷ Mark Close ∷ Mark Comma ∷ Register ∷ []

-- the operands of each mnemonic
abbrev pub shape : Mnemonic → List Role
shape (m.Compute op) = three Register Register Register
shape m.Not = two Register Register
shape m.Mstart = two Register Register
shape m.Asr = with_number ShiftCount
shape m.Sh = Register ∷ Mark Comma ∷ with_number ShiftCount
shape m.Addi = with_number Immediate
shape m.Mov = two Register Register
shape m.Nop = []
shape m.MoveFrom = two SpecialName Register
shape m.MoveTo = two Register SpecialName
shape m.Load = access
shape m.Store = access
shape m.LoadAddress = two AnyName Register
shape (m.Branch cond) = three Register Register CodeName
shape (m.SwappedBranch cond) = three Register Register CodeName
shape m.Goto = one CodeName
shape m.Call = two CodeName Register
shape m.CallReg = two Register Register
shape m.JumpReg = one Register
shape m.Halt = []
shape m.System = []

-- `V`, or `V,V` and so on, as many as so many words may be
abbrev pub values : List Word → List Role
values (v ∷ separator ∷ words) = DataValue ∷ Mark Comma ∷ values words
values _ = one DataValue

-- the operands of each directive
abbrev pub directive_shape : Directive → List Word → List Role
directive_shape d.Word words = values words
directive_shape d.Space words = one WordCount
directive_shape _ words = []

-- a name may stand there
abbrev pub takes_name : Role → Bool
takes_name Register = true
takes_name SpecialName = true
takes_name Offset = true
takes_name CodeName = true
takes_name AnyName = true
takes_name DataValue = true
takes_name _ = false

-- a number may stand there
abbrev pub takes_number : Role → Bool
takes_number Immediate = true
takes_number ShiftCount = true
takes_number Offset = true
takes_number DataValue = true
takes_number WordCount = true
takes_number _ = false

-- two words are the same mark
abbrev pub is_mark : Word → Word → Bool
is_mark Comma Comma = true
is_mark Open Open = true
is_mark Close Close = true
is_mark Hash Hash = true
is_mark _ _ = false

-- a word is of the kind that stands in a place
abbrev pub suits : Role → Word → Bool
suits (Mark mark) word = is_mark mark word
suits role (Name bytes) = takes_name role
suits role (Number negative value) = takes_number role
suits _ _ = false

-- words have this shape: as many as it has places, and each of the kind that stands there
abbrev pub has_shape : List Role → List Word → Bool
has_shape [] [] = true
has_shape (role ∷ roles) (word ∷ words) = suits role word && has_shape roles words
has_shape _ _ = false

-- a statement: none, one that does not begin with a name, an instruction, or a directive, with the words behind its name
pub data Form : Type 0 where
  Empty : Form
  Nameless : Form
  AnInstruction : (mnemonic : Option Mnemonic) (operands : List Word) → Form
  ADirective : (directive : Option Directive) (operands : List Word) → Form

-- the form of a statement by its words
abbrev pub form : List Word → Form
form [] = Empty
form (Name name ∷ words) = if is_dotted name then ADirective (directive_named name) words else AnInstruction (mnemonic_named name) words
form (_ ∷ words) = Nameless

-- each word with its place, where words have this shape
abbrev pub placed : List Role → List Word → List (Role × Word)
placed roles words = if has_shape roles words then zip roles words else []

-- the operands of a statement, each with its place: none where it does not have its shape
abbrev pub operands : Form → List (Role × Word)
operands (AnInstruction (Some mnemonic) words) = placed (shape mnemonic) words
operands (ADirective (Some directive) words) = placed (directive_shape directive words) words
operands _ = []

-- a name in the place of a register or a special name is none
abbrev pub is_no_register : Role × Word → Bool
is_no_register (Register, Name name) = is_none (register_named name)
is_no_register (SpecialName, Name name) = is_none (special_named name)
is_no_register _ = false

-- a number is outside the range of its place
abbrev pub is_outside : Role × Word → Bool
is_outside (Immediate, Number negative value) = not (in_range 65536 65535 negative value)
is_outside (ShiftCount, Number negative value) = not (in_range 0 31 negative value)
is_outside (Offset, Number negative value) = not (in_range 65536 65535 negative value)
is_outside (DataValue, Number negative value) = not (in_range 2147483648 4294967295 negative value)
is_outside (WordCount, Number negative value) = not (in_range 0 MAX_DATA_WORDS negative value)
is_outside _ = false

-- a name in the place of a label is none of a text in which each name has this kind, or is no label
abbrev pub is_undefined : (List ℕ → Option Section) → Role × Word → Bool
is_undefined kind (Offset, Name name) = is_none (kind name)
is_undefined kind (CodeName, Name name) = is_none (kind name)
is_undefined kind (AnyName, Name name) = is_none (kind name)
is_undefined kind (DataValue, Name name) = is_none (kind name)
is_undefined kind _ = false

abbrev pub is_code_kind : Option Section → Bool
is_code_kind (Some section.Code) = true
is_code_kind _ = false

abbrev pub is_data_kind : Option Section → Bool
is_data_kind (Some section.Data) = true
is_data_kind _ = false

-- a code label as an offset, or a data label as a target
abbrev pub is_wrong_kind : (List ℕ → Option Section) → Role × Word → Bool
is_wrong_kind kind (Offset, Name name) = is_code_kind (kind name)
is_wrong_kind kind (CodeName, Name name) = is_data_kind (kind name)
is_wrong_kind kind _ = false

abbrev pub is_chain : Option Special → Bool
is_chain (Some Pc1) = true
is_chain (Some Pc2) = true
is_chain (Some Pc3) = true
is_chain _ = false

-- `pc1`, `pc2` or `pc3`
abbrev pub moves_chain : Role × Word → Bool
moves_chain (SpecialName, Name name) = is_chain (special_named name)
moves_chain _ = false
