-- No two labels of a text have one name.
use Rattle.std.proofs.Common.{◌≡◌, ℕ, Bool, true, false, cond, ◌||◌, List, [], ◌∷◌, ◌++◌, map, Option, Some, refl, sym}
use Rattle.std.specs.Prelude.{is_some}
use Rattle.std.proofs.lemmas.Bool.{false≢true}
use Rattle.std.specs.List.{IsDistinct, AllByRecursion}
use Rattle.std.specs.Str.{bytes_eq}
use Rattle.mx_source.specs.declared.statement.Label.{Label}
use Rattle.mx_source.specs.Names.{AreApart}
use Rattle.mx_lines.specs.Instructions.{Labels}
use Rattle.mx_lines.specs.Operands.{label_named}
use Rattle.mx_lines.specs.Words.{Word, Name, Colon}
use Rattle.mx_lines.proofs.Copied.{swapped}
use Rattle.mx_asm.specs.Directives.{is_dotted}
use Rattle.mx_asm.specs.declared.position.Position.{Position}
use Rattle.mx_asm.specs.Positions.{define, define_front, labels_from, with_labels, label_here, line_words, after}

pub none_apart : AreApart []
unfolding IsDistinct
none_apart = tt

-- no name stands twice
abbrev names : Labels → List (List ℕ)
names labels = map (λ (p : List ℕ × Label). p.0) labels

apart_push : (n : List ℕ) (labels : Labels) (l : Label) (name : List ℕ) → bytes_eq n name ≡ false → AllByRecursion (λ y. bytes_eq n y ≡ false) (names labels)
    → AllByRecursion (λ y. bytes_eq n y ≡ false) (names (labels ++ (name, l) ∷ []))
apart_push n [] l name h all = (h, tt)
apart_push n (e ∷ labels) l name h all = (all.0, apart_push n labels l name h all.1)

cond_none : (b : Bool) (x : Label) (o : Option Label) → is_some (cond b (Some x) o) ≡ false → (b ≡ false) × (is_some o ≡ false)
cond_none true x o h = absurd (false≢true (sym h))
cond_none false x o h = (refl, h)

labels_push : (labels : Labels) (l : Label) (name : List ℕ) → is_some (label_named labels name) ≡ false → AreApart labels
    → AreApart (labels ++ (name, l) ∷ [])
unfolding IsDistinct
labels_push [] l name h d = (tt, tt)
labels_push (e ∷ labels) l name h d =
    let none = cond_none (bytes_eq name e.0) e.1 (label_named labels name) h in
    (apart_push e.0 labels l name (swapped name e.0 none.0) d.0, labels_push labels l name none.1 d.1)

added_apart : (labels : Labels) (l : Label) (name : List ℕ) (dotted known : Bool) → is_some (label_named labels name) ≡ known
    → AreApart labels
    → AreApart (cond (dotted || known) labels (labels ++ (name, l) ∷ []))
added_apart labels l name true known h d = d
added_apart labels l name false true h d = d
added_apart labels l name false false h d = labels_push labels l name h d

front_apart : (words : List Word) (labels : Labels) (l : Label) → AreApart labels
    → AreApart (define_front labels l words)
unfolding define
front_apart (Name name ∷ Colon ∷ words) labels l d =
    front_apart words (define labels l name) l (added_apart labels l name (is_dotted name) (is_some (label_named labels name)) refl d)
front_apart _ labels l d = d

pub labels_apart : (lines : List (List ℕ)) (p : Position) (labels : Labels) → AreApart labels
    → AreApart (labels_from p labels lines)
labels_apart [] p labels d = d
labels_apart (line ∷ lines) p labels d =
    labels_apart lines (after p (line_words line)) (with_labels p labels (line_words line)) (front_apart (line_words line) labels (label_here p) d)
