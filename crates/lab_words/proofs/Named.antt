-- Names that are the labels of a source.
use Rattle.std.proofs.Common.{◌≡◌, ℕ, List, Some}
use Rattle.mx_source.specs.declared.statement.Label.TheVariants as label
use Rattle.mx_source.specs.Labels.{IsPlace}
use Rattle.mx_source.specs.Printed.{place_name}
use Rattle.mx_lines.specs.Operands.{label_named}
use Rattle.mx_lines.specs.Instructions.{Labels}
use Rattle.mx_asm.specs.Printable.{IsLabelName}
use Rattle.lab_words.specs.Naming.{Naming}

-- the name is that of the first label of some statement, or of the end, whose block begins at the address
pub record NamesCode (labels : Labels) (count : ℕ) (link : ℕ → ℕ) (address : ℕ) (name : List ℕ) : Type 0 where
  pub index : ℕ
  pub place : IsPlace labels count index
  pub first : name ≡ place_name labels index
  pub begins : link index ≡ address

-- the name is that of a label of the data word at the address
pub record NamesData (labels : Labels) (address : ℕ) (name : List ℕ) : Type 0 where
  pub letters : IsLabelName name
  pub found : label_named labels name ≡ Some (label.Data address)

-- the names are labels of a source of so many statements whose blocks begin as the link map says
pub record AreNames (labels : Labels) (count : ℕ) (link : ℕ → ℕ) (names : Naming) : Type 0 where
  pub code : (a : ℕ) (name : List ℕ) → names.code a ≡ Some name → NamesCode labels count link a name
  pub user_data : (a : ℕ) (name : List ℕ) → names.user_data a ≡ Some name → NamesData labels a name
