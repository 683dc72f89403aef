-- A source as it grows: statements, labels and the number of the next line of its canonical text.
use Rattle.std.specs.Prelude.{ℕ, suc, List, [], ◌∷◌, ◌++◌, length}
use Rattle.mx_source.specs.declared.statement.Label.{Label}
use Rattle.mx_source.specs.declared.statement.Label.TheVariants.{Code}
use Rattle.mx_source.specs.declared.statement.Statement.{Statement}
use Rattle.mx_source.specs.SourceValue.{SourceValue, plain_source}

pub record Draft : Type 0 where
  pub statements : List Statement
  pub lines : List ℕ
  pub labels : List (List ℕ × Label)
  pub line : ℕ

abbrev pub empty : Draft
empty = record { statements = []; lines = []; labels = []; line = 1 }

-- a statement on the next line
abbrev pub put : Statement → Draft → Draft
put s d = record d { statements = d.statements ++ s ∷ []; lines = d.lines ++ d.line ∷ []; line = suc d.line }

-- a label on the next line, which names the next statement
abbrev pub name : List ℕ → Draft → Draft
name n d = record d { labels = d.labels ++ (n, Code (length d.statements)) ∷ []; line = suc d.line }

-- the source of a draft, without data
abbrev pub finished : Draft → SourceValue
finished d = plain_source d.statements d.lines [] d.labels
