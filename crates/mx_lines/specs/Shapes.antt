-- The shapes of operands: which words stand behind a mnemonic, and what they say.
use Rattle.std.specs.Prelude.{ℕ, Bool, List, [], ◌∷◌, Result, Ok, Err}
use Rattle.mx_lines.specs.declared.fault.Fault.{Fault}
use Rattle.mx_lines.specs.declared.fault.Fault.TheVariants.{BadOperands}
use Rattle.mx_lines.specs.Reading.{◌>>=◌}
use Rattle.mx_lines.specs.Words.{Word, Name, Number, Comma, Open, Close, Hash, Colon, End}
use Rattle.mx_lines.specs.declared.shapes.OneAndNumber.{OneAndNumber as LentOne}
use Rattle.mx_lines.specs.declared.shapes.TwoAndNumber.{TwoAndNumber as LentTwo}
use Rattle.mx_lines.specs.declared.shapes.Access.{Access as LentAccess}
use Rattle.mx_lines.specs.declared.word.Word.{Word as Lent}
use Rattle.mx_lines.specs.declared.word.Word.TheVariants as lent

-- what a word of the program says
abbrev pub word : Lent → Word
word (lent.Name bytes) = Name bytes.now
word (lent.Number negative value) = Number negative value
word lent.Comma = Comma
word lent.Open = Open
word lent.Close = Close
word lent.Hash = Hash
word lent.Colon = Colon
word lent.End = End

-- `NAME,#NUMBER,NAME`
pub record OneAndNumber : Type 0 where
  pub source : List ℕ
  pub negative : Bool
  pub value : ℕ
  pub dest : List ℕ

-- `NAME,NAME,#NUMBER,NAME`
pub record TwoAndNumber : Type 0 where
  pub first : List ℕ
  pub second : List ℕ
  pub negative : Bool
  pub value : ℕ
  pub dest : List ℕ

-- `OFFSET[NAME],NAME`, the offset being a number or a name
pub record Access : Type 0 where
  pub offset : Word
  pub base : List ℕ
  pub register : List ℕ

-- what these operands of the program say
abbrev pub one_and_number : LentOne → OneAndNumber
one_and_number o = record { source = o.source.now; negative = o.negative; value = o.value; dest = o.dest.now }

abbrev pub two_and_number : LentTwo → TwoAndNumber
two_and_number o = record { first = o.first.now; second = o.second.now; negative = o.negative; value = o.value; dest = o.dest.now }

abbrev pub memory_operands : LentAccess → Access
memory_operands o = record { offset = word o.offset; base = o.base.now; register = o.register.now }

-- nothing
abbrev pub nothing : List Word → Result (Unit {0}) Fault
nothing [] = Ok tt
nothing _ = Err BadOperands

-- `NAME`
abbrev pub one_name : List Word → Result (List ℕ) Fault
one_name (Name a ∷ []) = Ok a
one_name _ = Err BadOperands

-- `NAME,NAME`
abbrev pub two_names : List Word → Result (List ℕ × List ℕ) Fault
two_names (Name a ∷ Comma ∷ Name b ∷ []) = Ok (a, b)
two_names _ = Err BadOperands

-- `NAME,NAME,NAME`
abbrev pub three_names : List Word → Result (List ℕ × List ℕ × List ℕ) Fault
three_names (Name a ∷ Comma ∷ Name b ∷ Comma ∷ Name c ∷ []) = Ok (a, b, c)
three_names _ = Err BadOperands

-- `NAME,#NUMBER,NAME`
abbrev pub name_number_name : List Word → Result OneAndNumber Fault
name_number_name (Name a ∷ Comma ∷ Hash ∷ Number negative value ∷ Comma ∷ Name dest ∷ []) =
    Ok (record { source = a; negative = negative; value = value; dest = dest })
name_number_name _ = Err BadOperands

-- `NAME,NAME,#NUMBER,NAME`
abbrev pub names_number_name : List Word → Result TwoAndNumber Fault
names_number_name (Name a ∷ Comma ∷ words) =
    name_number_name words >>= λ o. Ok (record { first = a; second = o.source; negative = o.negative; value = o.value; dest = o.dest })
names_number_name _ = Err BadOperands

-- an offset, which is a number or a name, before `[NAME],NAME`
abbrev pub with_offset : Word → List ℕ → List ℕ → Result Access Fault
with_offset (Name label) base register = Ok (record { offset = Name label; base = base; register = register })
with_offset (Number negative value) base register = Ok (record { offset = Number negative value; base = base; register = register })
with_offset _ base register = Err BadOperands

-- `OFFSET[NAME],NAME`
abbrev pub memory : List Word → Result Access Fault
memory (offset ∷ Open ∷ Name base ∷ Close ∷ Comma ∷ Name register ∷ []) = with_offset offset base register
memory _ = Err BadOperands
