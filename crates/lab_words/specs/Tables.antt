-- What only private functions cite: the tables of the first labels.
use Rattle.std.specs.Prelude.{ℕ, suc, ◌-◌, ◌==◌, Bool, false, List, [], ◌∷◌, Option, Some, None, nat_le, slice_index_or, if◌then◌else◌}
use Rattle.mx_isa.specs.declared.board.TheConstants.{CODE_BASE, DATA_BASE}
use Rattle.mx_source.specs.declared.statement.Label.{Label}
use Rattle.mx_source.specs.declared.statement.Label.TheVariants as label
use Rattle.lab_words.specs.declared.names.NamedPlace.{NamedPlace}
use Rattle.lab_words.specs.declared.names.NamedPlace.TheVariants.{Code, Data}

-- what a label names, by the link map
abbrev pub place_of : (ℕ → ℕ) → Label → NamedPlace
place_of link (label.Code i) = Code (link i)
place_of link (label.Data a) = Data a

-- how far an address stands behind another
abbrev pub offset_from : ℕ → ℕ → Option ℕ
offset_from base a = if nat_le base a then Some (a - base) else None

abbrev pub code_offset : NamedPlace → Option ℕ
code_offset (Code a) = offset_from CODE_BASE a
code_offset (Data a) = None

abbrev pub data_offset : NamedPlace → Option ℕ
data_offset (Code a) = None
data_offset (Data a) = offset_from DATA_BASE a

-- what a table has at a place
abbrev pub entry : List (Option ℕ) → ℕ → Option ℕ
entry table k = slice_index_or table k None

abbrev pub offset_is : Option ℕ → ℕ → Bool
offset_is None k = false
offset_is (Some n) k = n == k

-- the index of the first of the offsets that is this one, where the index of the first of all is i
abbrev pub first_from : ℕ → ℕ → List (Option ℕ) → Option ℕ
first_from k i [] = None
first_from k i (offset ∷ offsets) = if offset_is offset k then Some i else first_from k (suc i) offsets
