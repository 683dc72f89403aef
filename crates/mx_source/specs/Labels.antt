-- What labels name.
use Rattle.std.specs.Prelude.{◌≡◌, ℕ, ◌≤◌, ◌<◌, ◌==◌, Bool, true, false, List}
use Rattle.std.specs.List.{list_any}
use Rattle.mx_isa.specs.declared.board.TheConstants.{DATA_BASE, DATA_END}
use Rattle.mx_source.specs.declared.statement.Label.{Label}
use Rattle.mx_source.specs.declared.statement.Label.TheVariants.{Code, Data}

-- a code label names a statement of so many or the end, a data label an address of user data
abbrev pub LabelFits : ℕ → Label → Type 0
LabelFits count (Code i) = i ≤ count
LabelFits count (Data a) = (DATA_BASE ≤ a) × (a < DATA_END)

-- the label is a code label of this index
abbrev pub names_index : ℕ → Label → Bool
names_index i (Code j) = j == i
names_index i (Data a) = false

-- the label is a data label of this address
abbrev pub names_address : ℕ → Label → Bool
names_address a (Code i) = false
names_address a (Data b) = b == a

abbrev pub is_data_label : Label → Bool
is_data_label (Code i) = false
is_data_label (Data a) = true

-- some label is a code label of this index
abbrev pub is_labelled : List (List ℕ × Label) → ℕ → Bool
is_labelled labels i = list_any (λ p. names_index i p.1) labels

-- an index that a source of so many statements may name: a statement's or the end, with a label
pub record IsPlace (labels : List (List ℕ × Label)) (count : ℕ) (i : ℕ) : Type 0 where
  pub within : i ≤ count
  pub labelled : is_labelled labels i ≡ true
