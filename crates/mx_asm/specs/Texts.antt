-- What a text reads as.
use Rattle.std.specs.Prelude.{◌≡◌, ℕ, ◌+◌, List, [], ◌∷◌, ◌++◌, Option, Some, None, Result, Ok, Err}
use Rattle.mx_lex.specs.Lines.{lines_of}
use Rattle.mx_source.specs.declared.statement.Statement.{Statement}
use Rattle.mx_source.specs.declared.statement.Value.{Value}
use Rattle.mx_source.specs.SourceValue.{SourceValue}
use Rattle.mx_lines.specs.declared.fault.Fault.{Fault}
use Rattle.mx_asm.specs.declared.position.Position.{Position}
use Rattle.mx_lines.specs.Instructions.{Labels}
use Rattle.mx_asm.specs.Directives.{Effect, Nothing, Instruction, Data, Input, effect_of}
use Rattle.mx_asm.specs.Positions.{statement_words, after, line_words, labels_from, start}
use Rattle.mx_asm.specs.Faults.{first_fault}

-- what a line does, nothing where it has a fault
abbrev pub or_nothing : Result Effect Fault → Effect
or_nothing (Ok effect) = effect
or_nothing (Err fault) = Nothing

-- what each line does, with its number
abbrev pub effects_from : Labels → Position → ℕ → List (List ℕ) → List (ℕ × Effect)
effects_from labels p number [] = []
effects_from labels p number (line ∷ lines) =
    (number, or_nothing (effect_of labels p.section (statement_words (line_words line)))) ∷ effects_from labels (after p (line_words line)) (number + 1) lines

-- the statement of an effect before others
abbrev pub onto_statements : Effect → List Statement → List Statement
onto_statements (Instruction s) rest = s ∷ rest
onto_statements _ rest = rest

-- the statements, in order of their lines
abbrev pub statements_in : List (ℕ × Effect) → List Statement
statements_in [] = []
statements_in (e ∷ es) = onto_statements e.1 (statements_in es)

-- the line number of a statement before others
abbrev pub onto_lines : ℕ → Effect → List ℕ → List ℕ
onto_lines number (Instruction s) rest = number ∷ rest
onto_lines number _ rest = rest

-- their line numbers
abbrev pub lines_in : List (ℕ × Effect) → List ℕ
lines_in [] = []
lines_in (e ∷ es) = onto_lines e.0 e.1 (lines_in es)

-- the data words of an effect before others
abbrev pub onto_values : Effect → List Value → List Value
onto_values (Data values) rest = values ++ rest
onto_values _ rest = rest

-- the data words, in order
abbrev pub values_in : List (ℕ × Effect) → List Value
values_in [] = []
values_in (e ∷ es) = onto_values e.1 (values_in es)

-- the line of an `.input`, or a later one
abbrev pub onto_input : ℕ → Effect → Option ℕ → Option ℕ
onto_input number Input rest = Some number
onto_input number _ rest = rest

-- the line of the first `.input`
abbrev pub input_in : List (ℕ × Effect) → Option ℕ
input_in [] = None
input_in (e ∷ es) = onto_input e.0 e.1 (input_in es)

-- the labels of a text whose data begin at this address
unfoldable pub text_labels : ℕ → List ℕ → Labels
text_labels data_start text = labels_from (start data_start) [] (lines_of text)

-- what its lines do
unfoldable pub text_effects : ℕ → List ℕ → List (ℕ × Effect)
text_effects data_start text = effects_from (text_labels data_start text) (start data_start) 1 (lines_of text)

-- the source that a text reads as
unfoldable pub source_of : ℕ → List ℕ → SourceValue
source_of data_start text =
    let effects = text_effects data_start text in
    record {
      statements = statements_in effects;
      lines = lines_in effects;
      user_data = values_in effects;
      labels = text_labels data_start text;
      input = input_in effects;
    }

-- the first faulty line of a text, with its least fault; data addresses end before this end
unfoldable pub text_fault : ℕ → ℕ → List ℕ → Option (ℕ × Fault)
text_fault data_start end text = first_fault (text_labels data_start text) end (start data_start) [] 1 (lines_of text)

-- a text without faults reads as this source
pub record ReadsAs (data_start end : ℕ) (text : List ℕ) (source : SourceValue) : Type 0 where
  pub faultless : text_fault data_start end text ≡ None
  pub same : source ≡ source_of data_start text
