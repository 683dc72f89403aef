-- Names of labels.
use Rattle.std.specs.Prelude.{ℕ, List, map}
use Rattle.std.specs.List.{IsDistinct}
use Rattle.std.specs.Str.{bytes_eq}
use Rattle.mx_source.specs.declared.name.Name.{Name}
use Rattle.mx_source.specs.declared.statement.Label.{Label}

-- the bytes of a name
abbrev pub name_bytes : Name → List ℕ
name_bytes n = n.bytes.items

-- labels, each with the bytes of its name
abbrev pub named_labels : List (Name × Label) → List (List ℕ × Label)
named_labels entries = map (λ p. (name_bytes p.0, p.1)) entries

-- no two labels have one name
abbrev pub AreApart : List (List ℕ × Label) → Type 0
AreApart labels = IsDistinct bytes_eq (map (λ (p : List ℕ × Label). p.0) labels)
