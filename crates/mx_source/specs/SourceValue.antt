-- What a source is, as lists.
use Rattle.std.specs.Prelude.{◌≡◌, ℕ, ◌≤◌, List, length, All, Option, None}
use Rattle.mx_isa.specs.declared.board.TheConstants.{MAX_STATEMENTS, MAX_DATA_WORDS}
use Rattle.mx_source.specs.declared.statement.Value.{Value}
use Rattle.mx_source.specs.declared.statement.Label.{Label}
use Rattle.mx_source.specs.declared.statement.Statement.{Statement}
use Rattle.mx_source.specs.Names.{AreApart}
use Rattle.mx_source.specs.Labels.{LabelFits, IsPlace}
use Rattle.mx_source.specs.Statements.{StatementFits, ValueFits}

-- statements with their lines, data words, labels in order of definition, and the line of the first .input
pub record SourceValue : Type 0 where
  pub statements : List Statement
  pub lines : List ℕ
  pub user_data : List Value
  pub labels : List (List ℕ × Label)
  pub input : Option ℕ

-- the source of these lists, without input
abbrev pub plain_source : List Statement → List ℕ → List Value → List (List ℕ × Label) → SourceValue
plain_source statements lines user_data labels =
    record { statements = statements; lines = lines; user_data = user_data; labels = labels; input = None }

-- what each source keeps to
pub record IsSource (s : SourceValue) : Type 0 where
  pub few_statements : length s.statements ≤ MAX_STATEMENTS
  pub few_words : length s.user_data ≤ MAX_DATA_WORDS
  pub a_line_each : length s.lines ≡ length s.statements
  pub labels_fit : All (λ (p : List ℕ × Label). LabelFits (length s.statements) p.1) s.labels
  pub statements_fit : All (StatementFits (IsPlace s.labels (length s.statements))) s.statements
  pub words_fit : All (ValueFits (IsPlace s.labels (length s.statements))) s.user_data
  pub distinct : AreApart s.labels
