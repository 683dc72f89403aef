-- The names of places.
use Rattle.std.specs.Prelude.{◌≡◌, ℕ, ◌+◌, ◌-◌, ◌^◌, ◌<◌, Bool, false, ◌&&◌, ◌==◌, List, Option, Some, None, nat_le, nat_lt, slice_get, find, option_map, if◌then◌else◌}
use Rattle.std.specs.Option.{option_and_then}
use Rattle.std.specs.Borrow.{Bor}
use Rattle.mx_isa.specs.declared.board.TheConstants.{CODE_BASE, DATA_BASE}
use Rattle.mx_source.specs.declared.name.Name.{Name}
use Rattle.mx_source.specs.declared.statement.Label.{Label}
use Rattle.mx_source.specs.declared.statement.Label.TheVariants.{Code, Data}
use Rattle.mx_source.specs.declared.statement.Statement.{Statement}
use Rattle.mx_source.specs.declared.statement.Statement.TheVariants.{LaCode, Branch, Call}
use Rattle.mx_source.specs.Labels.{names_address}
use Rattle.mx_source.specs.Names.{name_bytes}
use Rattle.mx_source.specs.Printed.{Labels}
use Rattle.lab_words.specs.declared.names.PlaceNames.{PlaceNames}

-- the name of the code word at an address, and of the data word at an address, where it has one
pub record Naming : Type 0 where
  pub code : ℕ → Option (List ℕ)
  pub user_data : ℕ → Option (List ℕ)

-- the label is one of a statement whose block begins at the address
abbrev pub is_at : (ℕ → ℕ) → ℕ → Label → Bool
is_at link a (Code i) = link i == a
is_at link a (Data b) = false

-- the name of the first label that passes
abbrev pub first_named : (Label → Bool) → Labels → Option (List ℕ)
first_named passes labels = option_map (λ p. p.0) (find (λ p. passes p.1) labels)

-- The names by the labels of a source, of which so many code words, at addresses that the link map says, and so many data words are
-- linked: each word's first label is its name. The end of the code may have a name too.
abbrev pub names_of : Labels → (ℕ → ℕ) → ℕ → ℕ → Naming
names_of labels link words data_words = record {
  code = λ a. if nat_le CODE_BASE a && nat_le a (CODE_BASE + words) then first_named (is_at link a) labels else None;
  user_data = λ a. if nat_le DATA_BASE a && nat_lt a (DATA_BASE + data_words) then first_named (names_address a) labels else None;
}

-- Where a statement goes, or of which place it makes the address: the address of that place's block. A call and a branch go on behind the
-- words of that block that stand in their slots.
abbrev pub aim_of : (ℕ → ℕ) → Statement → Option ℕ
aim_of link (LaCode dest target) = Some (link target)
aim_of link (Branch a b condition target) = Some (link target)
aim_of link (Call dest target) = Some (link target)
aim_of link statement = None

-- the code word at this address has its name, and no other code word has one; where no address is given, all keep theirs
abbrev pub aimed : Option ℕ → Naming → Naming
aimed None names = names
aimed (Some at) names = record { code = λ a. if a == at then names.code a else None; user_data = names.user_data }

-- the two name the same places, at addresses of 32 bits
pub record NameAlike (m n : Naming) : Type 0 where
  pub code : (a : ℕ) → a < 2 ^ 32 → m.code a ≡ n.code a
  pub user_data : (a : ℕ) → a < 2 ^ 32 → m.user_data a ≡ n.user_data a

-- the bytes of a name that is lent
abbrev pub lent_name : Option (Bor (List ℕ)) → Option (List ℕ)
lent_name name = option_map (λ n. n.now) name

-- the name of a label of this index
abbrev pub name_at : List (Name × Label) → ℕ → Option (List ℕ)
name_at labels index = option_map (λ p. name_bytes p.0) (slice_get labels index)

-- the name that a table has at a place
abbrev pub tabled : List (Name × Label) → List (Option ℕ) → ℕ → Option (List ℕ)
tabled labels table place = option_and_then (name_at labels) (option_and_then (λ o. o) (slice_get table place))

-- the name at an address of a table that begins at a base
abbrev pub from_base : List (Name × Label) → List (Option ℕ) → ℕ → ℕ → Option (List ℕ)
from_base labels table base address = if nat_le base address then tabled labels table (address - base) else None

-- the names that the program keeps
abbrev pub naming : PlaceNames → Naming
naming names = record {
  code = from_base names.labels.now.entries names.code.items CODE_BASE;
  user_data = from_base names.labels.now.entries names.user_data.items DATA_BASE;
}

-- the aim that the program keeps of the statement of an index
abbrev pub aim_at : PlaceNames → ℕ → Option ℕ
aim_at names index = option_and_then (λ o. o) (slice_get names.aims.items index)
