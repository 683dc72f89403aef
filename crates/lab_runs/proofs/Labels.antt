-- A label is looked for from the first on.
use Rattle.std.proofs.Common.{◌≡◌, ℕ, ◌+◌, ◌≤◌, true, false, List, ◌∷◌, drop, length, Option, Some, None, sym, ap, ◌∙◌, arith}
use Rattle.std.specs.Prelude.{slice_get, option_and_then}
use Rattle.std.specs.Option.{option_map}
use Rattle.std.specs.Str.{bytes_eq}
use Rattle.std.proofs.lemmas.Bool.{cond-true, cond-false}
use Rattle.std.proofs.lemmas.List.{at_drop_more, drop_all, length-map}
use Rattle.std.proofs.lemmas.Option.{slice_get_within, slice_get-map, get_or_from_slice_get}
use Rattle.mx_source.specs.declared.name.Name.{Name}
use Rattle.mx_source.specs.declared.Label.{Label}
use Rattle.mx_source.specs.Names.{name_bytes, named_labels}
use Rattle.mx_source.specs.SourceValue.{SourceValue}
use Rattle.mx_lines.specs.Operands.{label_named}
use Rattle.lab_runs.specs.Sessions.{statement_at, statement_named}

module _ (entries : List (Name × Label)) (name : List ℕ) (i : ℕ) where
  abbrev labels : List (List ℕ × Label)
  labels = named_labels entries

  -- the label is among those from here on
  abbrev pub from_here : Type 0
  from_here = label_named labels name ≡ label_named (drop i labels) name

  module _ (found : Name) (label : Label) (entry : Some (found, label) ≡ slice_get entries i) where
    there : slice_get labels i ≡ Some (name_bytes found, label)
    there = slice_get-map (λ p. (name_bytes p.0, p.1)) entries i ∙ ap (option_map (λ p. (name_bytes p.0, p.1))) (sym entry)

    split : label_named (drop i labels) name ≡ label_named ((name_bytes found, label) ∷ drop (i + 1) labels) name
    split =
        at_drop_more (λ l. label_named l name) labels i (name_bytes found, label) (slice_get_within labels i (name_bytes found, label) there)
        ∙ ap (λ e. label_named (e ∷ drop (i + 1) labels) name) (get_or_from_slice_get labels i (name_bytes found, label) (name_bytes found, label) there)

    pub named_here : bytes_eq name (name_bytes found) ≡ true → label_named (drop i labels) name ≡ Some label
    named_here e = split ∙ cond-true (bytes_eq name (name_bytes found)) (Some label) (label_named (drop (i + 1) labels) name) e

    pub named_later : bytes_eq name (name_bytes found) ≡ false → label_named (drop i labels) name ≡ label_named (drop (i + 1) labels) name
    named_later e = split ∙ cond-false (bytes_eq name (name_bytes found)) (Some label) (label_named (drop (i + 1) labels) name) e

  pub none_named : length entries ≤ i → label_named (drop i labels) name ≡ None
  none_named past =
      let count : length labels ≡ length entries = length-map entries (λ p. (name_bytes p.0, p.1)) in
      ap (λ l. label_named l name) (drop_all i labels (omega (arith, count, past)))

-- what is found among a source's labels, by the bytes of a name, is its statement
pub found_is : (source : SourceValue) (name : List ℕ) {labels : List (List ℕ × Label)} {wanted : List ℕ} (found : Option Label)
    → labels ≡ source.labels → wanted ≡ name → label_named labels wanted ≡ found
    → option_and_then (statement_at (length source.statements)) found ≡ statement_named source name
found_is source name found all bytes named =
    ap (option_and_then (statement_at (length source.statements))) (sym named)
    ∙ (λ k. option_and_then (statement_at (length source.statements)) (label_named (all k) (bytes k)))
