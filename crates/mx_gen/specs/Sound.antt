-- What drafts keep to.
use Rattle.std.specs.Prelude.{◌≡◌, ◌≢◌, ℕ, ◌+◌, ◌*◌, ◌≤◌, ◌<◌, ◌⊎◌, List, ◌∷◌, length, decimal, All}
use Rattle.mx_source.specs.declared.statement.Label.{Label}
use Rattle.mx_source.specs.Labels.{LabelFits, IsPlace}
use Rattle.mx_source.specs.Statements.{StatementFits}
use Rattle.mx_gen.specs.Drafts.{Draft}

-- the name is that of an item before the j-th
abbrev pub IsOlder : ℕ → List ℕ × Label → Type 0
IsOlder j p = (i : ℕ) × (i < j) × ((p.0 ≡ 76 ∷ decimal i) ⊎ (p.0 ≡ 83 ∷ decimal i))

-- no label has the name
abbrev pub IsNew : List ℕ → List (List ℕ × Label) → Type 0
IsNew n = All (λ p. p.0 ≢ n)

-- a draft of j items
pub record IsSound (j : ℕ) (d : Draft) : Type 0 where
  pub few : length d.statements ≤ 8 + 4 * j
  pub a_line_each : length d.lines ≡ length d.statements
  pub next_line : d.line ≤ 10 + 8 * j
  pub older : All (IsOlder j) d.labels
  pub labels_fit : All (λ (p : List ℕ × Label). LabelFits (length d.statements) p.1) d.labels
  pub statements_fit : All (StatementFits (IsPlace d.labels (length d.statements))) d.statements
