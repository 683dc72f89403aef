-- What the statement of a line does: its instruction or its data words.
use Rattle.std.specs.Prelude.{ℕ, Bool, true, false, ◌==◌, List, [], ◌∷◌, replicate, Option, Some, None, Result, Ok, Err, codes, if◌then◌else◌}
use Rattle.std.specs.Str.{str_eq_ignore_ascii_case}
use Rattle.mx_isa.specs.declared.board.TheConstants.{MAX_DATA_WORDS}
use Rattle.mx_source.specs.declared.statement.Label.{Label}
use Rattle.mx_source.specs.declared.statement.Label.TheVariants as label
use Rattle.mx_source.specs.declared.statement.Statement.{Statement}
use Rattle.mx_source.specs.declared.statement.Value.{Value}
use Rattle.mx_source.specs.declared.statement.Value.TheVariants as values
use Rattle.mx_lines.specs.declared.fault.Fault.{Fault}
use Rattle.mx_lines.specs.declared.fault.Fault.TheVariants.{BadOperands, BadDirective, NumberOutOfRange}
use Rattle.mx_asm.specs.declared.position.Section.{Section}
use Rattle.mx_asm.specs.declared.position.Section.TheVariants as section
use Rattle.mx_asm.specs.declared.directive.Directive.{Directive}
use Rattle.mx_asm.specs.declared.directive.Directive.TheVariants as d
use Rattle.mx_lines.specs.Reading.{◌>>=◌}
use Rattle.mx_lines.specs.Words.{Word, Name, Number, Comma}
use Rattle.mx_lines.specs.Operands.{in_range, data_word, any_label}
use Rattle.mx_lines.specs.Instructions.{Labels, instruction}

-- a name that begins with `.`
abbrev pub is_dotted : List ℕ → Bool
is_dotted [] = false
is_dotted (b ∷ bytes) = b == 46

-- the directive that a name spells, in either case
unfoldable pub directive_named : List ℕ → Option Directive
directive_named name =
    if str_eq_ignore_ascii_case name (codes ".code") then Some d.Code
    else (if str_eq_ignore_ascii_case name (codes ".data") then Some d.Data
    else (if str_eq_ignore_ascii_case name (codes ".input") then Some d.Input
    else (if str_eq_ignore_ascii_case name (codes ".word") then Some d.Word
    else (if str_eq_ignore_ascii_case name (codes ".space") then Some d.Space else None))))

-- what a statement does
pub data Effect : Type 0 where
  Nothing : Effect
  Instruction : (statement : Statement) → Effect
  Data : (values : List Value) → Effect
  Input : Effect

-- a number or a name
abbrev pub is_value : Word → Bool
is_value (Name bytes) = true
is_value (Number negative value) = true
is_value _ = false

-- a `,`
abbrev pub is_comma : Word → Bool
is_comma Comma = true
is_comma _ = false

-- a value before others
abbrev pub cons : {A : Type 0} → A → Result (List A) Fault → Result (List A) Fault
cons x (Ok xs) = Ok (x ∷ xs)
cons x (Err fault) = Err fault

-- a value before others, which has to be one
abbrev pub before_values : Word → Result (List Word) Fault → Result (List Word) Fault
before_values v vs = if is_value v then cons v vs else Err BadDirective

-- `V`, or `V,V` and so on
abbrev pub value_words : List Word → Result (List Word) Fault
value_words [] = Err BadDirective
value_words (v ∷ []) = before_values v (Ok [])
value_words (v ∷ separator ∷ words) = if is_comma separator then before_values v (value_words words) else Err BadDirective

-- a number is a data word
abbrev pub number_fits : Word → Result (Unit {0}) Fault
number_fits (Number negative value) = data_word negative value >>= λ _. Ok tt
number_fits _ = Ok tt

-- each number among the values is one
abbrev pub numbers_fit : List Word → Result (Unit {0}) Fault
numbers_fit [] = Ok tt
numbers_fit (word ∷ words) = number_fits word >>= λ _. numbers_fit words

-- a label's value: the place of code, or the address
abbrev pub value_at : Label → Value
value_at (label.Code i) = values.Code i
value_at (label.Data a) = values.Int a

-- the data word of a value
abbrev pub value_of : Labels → Word → Result Value Fault
value_of labels (Number negative value) = data_word negative value >>= λ word. Ok (values.Int word)
value_of labels (Name name) = any_label labels name >>= λ l. Ok (value_at l)
value_of labels _ = Err BadDirective

-- the data words of values
abbrev pub values_of : Labels → List Word → Result (List Value) Fault
values_of labels [] = Ok []
values_of labels (word ∷ words) = value_of labels word >>= λ v. cons v (values_of labels words)

-- the data words behind `.word`
unfoldable pub word_values : Labels → List Word → Result (List Value) Fault
word_values labels words = do
  vs ← value_words words
  fit ← numbers_fit vs
  values_of labels vs

-- the number behind `.space`
unfoldable pub space_count : List Word → Result ℕ Fault
space_count (Number negative value ∷ []) = if in_range 0 MAX_DATA_WORDS negative value then Ok value else Err NumberOutOfRange
space_count _ = Err BadDirective

-- data stand in the data section
abbrev pub in_data : Section → List Value → Result Effect Fault
in_data section.Data values = Ok (Data values)
in_data section.Code values = Err BadDirective

-- an instruction stands in the code section
abbrev pub in_code : Section → Statement → Result Effect Fault
in_code section.Code statement = Ok (Instruction statement)
in_code section.Data statement = Err BadDirective

-- a directive without operands
abbrev pub without_operands : Effect → List Word → Result Effect Fault
without_operands effect [] = Ok effect
without_operands effect (_ ∷ _) = Err BadDirective

-- what a directive and the words behind it do
unfoldable pub directed : Labels → Section → Option Directive → List Word → Result Effect Fault
directed labels s (Some d.Code) words = without_operands Nothing words
directed labels s (Some d.Data) words = without_operands Nothing words
directed labels s (Some d.Input) words = without_operands Input words
directed labels s (Some d.Word) words = word_values labels words >>= λ values. in_data s values
directed labels s (Some d.Space) words = space_count words >>= λ k. in_data s (replicate k (values.Int 0))
directed labels s None words = Err BadDirective

-- what a statement does in a section, or its fault
unfoldable pub effect_of : Labels → Section → List Word → Result Effect Fault
effect_of labels s [] = Ok Nothing
effect_of labels s (Name name ∷ words) =
    if is_dotted name then directed labels s (directive_named name) words else (instruction labels name words >>= λ statement. in_code s statement)
effect_of labels s (_ ∷ words) = Err BadOperands
