-- The definitions of lines, one line after another.
use Rattle.std.proofs.Common.{◌≡◌, ℕ, ◌+◌, ◌≤◌, List, [], ◌∷◌, length, Bool, true, false, cond, Option, Some, None, refl, ap, sym, ◌∙◌, subst}
use Rattle.mx_lex.specs.Lines.{lines_of}
use Rattle.mx_asm.specs.declared.definitions.Definitions.{Definitions}
use Rattle.mx_asm.specs.declared.position.Position.{Position}
use Rattle.mx_asm.specs.Positions.{labels_from, line_words, after, with_labels, position_at_end}
use Rattle.mx_asm.specs.Faults.{first_repeat, repeats, earlier_line}
use Rattle.mx_asm.specs.Defined.{Defines}
use Rattle.mx_lines.proofs.Pieces.{no_lines}

-- a line that was found, or what is found later
abbrev or_later : Option ℕ → Option ℕ → Option ℕ
or_later (Some line) later = Some line
or_later None later = later

-- what is defined so far and what the rest defines is what all lines define
pub record IsDefined (from : Position) (all : List (List ℕ)) (d : Definitions) (number : ℕ) (rest : List (List ℕ)) : Type 0 where
  labels : labels_from d.last d.labels rest ≡ labels_from from [] all
  repeated : or_later d.repeated (first_repeat d.last d.labels number rest) ≡ first_repeat from [] 1 all
  last : position_at_end d.last rest ≡ position_at_end from all
  pub near : d.last.address ≤ 65537

pub begun : (from : Position) (all : List (List ℕ)) (d : Definitions) → d.labels ≡ [] → d.repeated ≡ None → d.last ≡ from
    → from.address ≤ 65537 → IsDefined from all d 1 all
begun from all d none never here near = record {
  labels = ap (λ p. labels_from p d.labels all) here ∙ ap (λ ls. labels_from from ls all) none;
  repeated =
      ap (λ f. or_later f (first_repeat d.last d.labels 1 all)) never
      ∙ ap (λ p. first_repeat p d.labels 1 all) here
      ∙ ap (λ ls. first_repeat from ls 1 all) none;
  last = ap (λ p. position_at_end p all) here;
  near = rw here near;
}

earlier_or_later : (found : Option ℕ) (again : Bool) (number : ℕ) (later : Option ℕ)
    → or_later (earlier_line found again number) later ≡ or_later found (cond again (Some number) later)
earlier_or_later (Some line) again number later = refl
earlier_or_later None true number later = refl
earlier_or_later None false number later = refl

none_later : (found : Option ℕ) → or_later found None ≡ found
none_later (Some line) = refl
none_later None = refl

module _ {from : Position} {all : List (List ℕ)} {d : Definitions} {number : ℕ} where
  -- one line more
  pub defined : {d' : Definitions} {line : List ℕ} {rest : List (List ℕ)} → IsDefined from all d number (line ∷ rest) → Defines d d' number (line_words line)
      → IsDefined from all d' (number + 1) rest
  defined {d'} {line} {rest} h e =
      let words = line_words line in
      let again = earlier_line d.repeated (repeats d.last d.labels words) number in
      record {
        labels =
            ap (λ p. labels_from p d'.labels rest) e.last
            ∙ ap (λ ls. labels_from (after d.last words) ls rest) e.labels
            ∙ h.labels;
        repeated =
            ap (λ f. or_later f (first_repeat d'.last d'.labels (number + 1) rest)) e.repeated
            ∙ ap (λ p. or_later again (first_repeat p d'.labels (number + 1) rest)) e.last
            ∙ ap (λ ls. or_later again (first_repeat (after d.last words) ls (number + 1) rest)) e.labels
            ∙ earlier_or_later d.repeated (repeats d.last d.labels words) number
            (first_repeat (after d.last words) (with_labels d.last d.labels words) (number + 1) rest)
            ∙ h.repeated;
        last = ap (λ p. position_at_end p rest) e.last ∙ h.last;
        near = e.near;
      }

  pub none_left : (rest : List ℕ) → length rest ≡ 0 → IsDefined from all d number (lines_of rest) → IsDefined from all d number []
  none_left rest none h = subst (IsDefined from all d number) (no_lines rest none) h

  -- no line is left
  pub all_labels : IsDefined from all d number [] → d.labels ≡ labels_from from [] all
  all_labels h = h.labels

  pub first_again : IsDefined from all d number [] → d.repeated ≡ first_repeat from [] 1 all
  first_again h = sym (none_later d.repeated) ∙ h.repeated

  pub ends_at : IsDefined from all d number [] → d.last ≡ position_at_end from all
  ends_at h = h.last
