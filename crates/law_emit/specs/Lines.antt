-- How the text of a translation's code is read.
use Rattle.std.specs.Prelude.{◌≡◌, ℕ, ◌+◌, ◌^◌, ◌<◌, true, List, [], ◌∷◌, ◌++◌, All, count_by, slice_get, Option, Some, None, Result, Ok}
use Rattle.mx_lex.specs.Lines.{lines_of}
use Rattle.mx_source.specs.declared.statement.Label.{Label}
use Rattle.mx_source.specs.declared.statement.Label.TheVariants as label
use Rattle.mx_source.specs.declared.statement.Statement.{Statement}
use Rattle.mx_source.specs.SourceValue.{SourceValue}
use Rattle.mx_lines.specs.declared.fault.Fault.{Fault}
use Rattle.mx_lines.specs.Instructions.{Labels}
use Rattle.mx_lines.specs.Reading.{◌>>=◌}
use Rattle.mx_asm.specs.Directives.{Effect}
use Rattle.mx_asm.specs.declared.position.Section.TheVariants as section
use Rattle.mx_asm.specs.Positions.{define, labels_from, section_after, statement_words, line_words}
use Rattle.mx_asm.specs.Printable.{is_name}
use Rattle.mx_asm.specs.Texts.{effects_from, statements_in, values_in, input_in}
use Rattle.cc_program.specs.declared.item.Object.{Object}
use Rattle.cc_program.specs.declared.program.Program.{Program}
use Rattle.cc_emit.specs.declared.line.Line.{Line}
use Rattle.cc_emit.specs.declared.output.Output.{Output}
use Rattle.cc_emit.specs.declared.words.Said.{Said}
use Rattle.cc_emit.specs.Images.{image_of}
use Rattle.cc_emit.specs.Lines.{is_statement}
use Rattle.cc_emit.specs.Names.{symbol_text}
use Rattle.law_emit.specs.Reading.{line_statement, line_names, statement_count, code_at}

-- the labels with these names, of which the first definition holds
abbrev pub define_all : Labels → Label → List (List ℕ) → Labels
define_all labels l [] = labels
define_all labels l (name ∷ names) = define_all (define labels l name) l names

-- the labels with those of lines, each of which names the statement after it
abbrev pub code_labels : Program → ℕ → Labels → List Line → Labels
code_labels p index labels [] = labels
code_labels p index labels (line ∷ lines) =
    code_labels p (index + statement_count line) (define_all labels (label.Code index) (line_names p line)) lines

abbrev pub before : Option (Result Statement Fault) → Result (List Statement) Fault → Result (List Statement) Fault
before None rest = rest
before (Some result) rest = result >>= λ s. rest >>= λ ss. Ok (s ∷ ss)

-- the statements that lines are, or the first fault of one
abbrev pub resolve : Labels → Program → List Line → Result (List Statement) Fault
resolve labels p [] = Ok []
resolve labels p (line ∷ lines) = before (line_statement labels p line) (resolve labels p lines)

-- the source of a text has the labels and the statements of lines, and then what follows their text
pub record IsSourceOf (p : Program) (lines : List Line) (address : ℕ) (rest : List ℕ) (source : SourceValue) : Type 0 where
  pub labels : source.labels ≡ labels_from (code_at (count_by is_statement lines) address) (code_labels p 0 [] lines) (lines_of rest)
  pub own : List Statement
  pub resolved : resolve source.labels p lines ≡ Ok own
  pub number : ℕ
  pub effects : List (ℕ × Effect)
  pub follow : effects ≡ effects_from source.labels (code_at (count_by is_statement lines) address) number (lines_of rest)
  pub statements : source.statements ≡ own ++ statements_in effects
  pub user_data : source.user_data ≡ values_in effects
  pub input : source.input ≡ input_in effects

-- a line leaves the section of data as it is
abbrev pub LineStays : List ℕ → Type 0
LineStays line = section_after section.Data (statement_words (line_words line)) ≡ section.Data

-- each of these lines does
abbrev pub StaysData : List (List ℕ) → Type 0
StaysData lines = All LineStays lines

-- each line of this text does, before others that do
abbrev pub Stays : List ℕ → Type 0
Stays text = (rest : List ℕ) → StaysData (lines_of rest) → StaysData (lines_of (text ++ rest))

-- the place of a symbol is a name of the language
abbrev pub PlaceFits : Program → Option ℕ → Type 0
PlaceFits p None = Unit {0}
PlaceFits p (Some symbol) = is_name (symbol_text p.symbols.list.items symbol) ≡ true

-- the symbol of a datum is one
abbrev pub ObjectFits : Program → Option Object → Type 0
ObjectFits p None = Unit {0}
ObjectFits p (Some object) = is_name (symbol_text p.symbols.list.items object.symbol) ≡ true

abbrev pub BeginFits : Program → Option ℕ → Type 0
BeginFits p None = Unit {0}
BeginFits p (Some number) = ObjectFits p (slice_get p.objects.items number)

-- what is said of a word of data
abbrev pub SaidFits : Program → Said → Type 0
SaidFits p said = PlaceFits p said.place × BeginFits p said.begins

-- the bytes of data are bytes, symbols are names of the language, and numbers have 32 bits
pub record DataFits (p : Program) (out : Output) (behind end : ℕ) : Type 0 where
  pub bytes : All (λ b. b < 256) (image_of p behind end).bytes
  pub said : All (SaidFits p) (image_of p behind end).said
  pub numbers : All (λ n. n < 2 ^ 32) out.numbers.keys
  pub ends : All (λ n. n < 2 ^ 32) out.ends.keys
  pub statements : out.statements < 2 ^ 32
  pub instructions : out.instructions < 2 ^ 32
  pub last : end < 2 ^ 32
