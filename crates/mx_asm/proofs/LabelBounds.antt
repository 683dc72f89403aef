-- The labels of a text without faults name statements of it, and addresses of user data.
use Rattle.std.proofs.Common.{◌≡◌, ℕ, ◌+◌, ◌≤◌, ◌<◌, ◌&&◌, ◌||◌, List, [], ◌∷◌, ◌++◌, length, cond, Bool, true, false, Option, Some, None, Result, Ok, Err, refl, sym, arith}
use Rattle.std.specs.Prelude.{All, not, nat_le, nat_lt, is_some}
use Rattle.std.proofs.lemmas.Bool.{false≢true}
use Rattle.std.proofs.lemmas.Bool.Decides.{nat_tests}
use Rattle.std.proofs.lemmas.List.Elements.{All-push}
use Rattle.mx_source.specs.declared.statement.Label.{Label}
use Rattle.mx_source.specs.Labels.{LabelFits}
use Rattle.mx_lines.specs.declared.fault.Fault.{Fault}
use Rattle.mx_lines.specs.declared.fault.Fault.TheVariants.{BadDirective, TooManyInstructions, DataFull, LineTooLong}
use Rattle.mx_asm.specs.declared.position.Section.{Section}
use Rattle.mx_asm.specs.declared.position.Section.TheVariants as section
use Rattle.mx_asm.specs.declared.position.Position.{Position}
use Rattle.mx_lines.specs.Words.{Word, Name, Colon, words_of}
use Rattle.mx_lines.specs.Operands.{label_named}
use Rattle.mx_lines.specs.Instructions.{Labels}
use Rattle.mx_lines.specs.Fitting.{LabelsFit}
use Rattle.mx_asm.specs.Directives.{Effect, effect_of, is_dotted}
use Rattle.mx_asm.specs.Positions.{has_label, has_dotted_label, define, define_front, label_here, label_at, with_labels, labels_from, line_words, words_or_none, statement_words, after, behind, position_at_end}
use Rattle.mx_asm.specs.Faults.{first_fault, found_or, line_fault, words_fault, least_fault, layout_fault, stands_past, is_full, is_data, repeats}

cond_none : {A : Type 0} (b : Bool) (x : A) (o : Option A) → cond b (Some x) o ≡ None → (b ≡ false) × (o ≡ None)
cond_none true x o h = cc
cond_none false x o h = (refl, h)

pub found_none : (n : ℕ) (f : Option Fault) (later : Option (ℕ × Fault)) → found_or n f later ≡ None → (f ≡ None) × (later ≡ None)
found_none n None later h = (refl, h)
found_none n (Some fault) later h = cc

or_false : (a b : Bool) → a || b ≡ false → b ≡ false
or_false true b h = cc
or_false false b h = h

least_none : (repeated : Bool) (r : Result Effect Fault) (rest : Option Fault) → least_fault repeated r rest ≡ None → rest ≡ None
least_none repeated (Ok e) rest h = (cond_none repeated _ rest h).1
least_none repeated (Err fault) rest h = cc

least_not_repeated : (repeated : Bool) (r : Result Effect Fault) (rest : Option Fault) → least_fault repeated r rest ≡ None → repeated ≡ false
least_not_repeated repeated (Ok e) rest h = (cond_none repeated _ rest h).0
least_not_repeated repeated (Err fault) rest h = cc

-- a line without a fault defines no label again
pub not_repeated : (labels : Labels) (end : ℕ) (p : Position) (repeated : Bool) (long : ℕ) (r : Result (List Word) Fault)
    → words_fault labels end p repeated long r ≡ None → repeated ≡ false
not_repeated labels end p repeated long (Err fault) h = cc
not_repeated labels end p repeated long (Ok ws) h = least_not_repeated repeated (effect_of labels p.section (statement_words ws)) (layout_fault end p long ws) h

not_full : (dotted many full long : Bool)
    → cond dotted (Some BadDirective) (cond many (Some TooManyInstructions) (cond full (Some DataFull) (cond long (Some LineTooLong) None))) ≡ None
    → full ≡ false
not_full true many full long h = cc
not_full false true full long h = cc
not_full false false true long h = cc
not_full false false false long h = refl

-- a line without a fault has no data label past the end of memory
not_past : (labels : Labels) (end : ℕ) (p : Position) (repeated : Bool) (long : ℕ) (r : Result (List Word) Fault)
    → words_fault labels end p repeated long r ≡ None → stands_past end p (words_or_none r) ≡ false
not_past labels end p repeated long (Err fault) h = cc
not_past labels end p repeated long (Ok ws) h =
    let layout = least_none repeated (effect_of labels p.section (statement_words ws)) (layout_fault end p long ws) h in
    let full = not_full (has_dotted_label ws) (nat_lt 20000 (after p ws).index) (is_full end p ws) (nat_lt 255 long) layout in
    or_false (nat_lt end (after p ws).address) (stands_past end p ws) full

past_fits : (end : ℕ) (address : ℕ) (labelled : Bool) → labelled ≡ true → true && labelled && nat_le end address ≡ false → address < end
past_fits end address true l h = grind (arith, nat_tests)
past_fits end address false l h = absurd (false≢true l)

here_fits : (end count : ℕ) (s : Section) (index address : ℕ) (labelled : Bool) → end ≤ 65536 → 256 ≤ address → index ≤ count
    → is_data s && labelled && nat_le end address ≡ false → labelled ≡ true → LabelFits count (label_at s index address)
here_fits end count section.Code index address labelled le low within h l = within
here_fits end count section.Data index address labelled le low within h l = (low, omega (arith, past_fits end address labelled l h))

dot_fits : (P : Label → Type 0) (labels : Labels) (l : Label) (name : List ℕ) (dotted known : Bool) → All (λ p. P p.1) labels → (dotted ≡ false → P l)
    → All (λ p. P p.1) (cond (dotted || known) labels (labels ++ (name, l) ∷ []))
dot_fits P labels l name true known h new = h
dot_fits P labels l name false true h new = h
dot_fits P labels l name false false h new = All-push (λ p. P p.1) labels (name, l) h (new refl)

pub define_fits : (P : Label → Type 0) (labels : Labels) (l : Label) (name : List ℕ) → All (λ p. P p.1) labels → (is_dotted name ≡ false → P l)
    → All (λ p. P p.1) (define labels l name)
unfolding define
define_fits P labels l name h new = dot_fits P labels l name (is_dotted name) (is_some (label_named labels name)) h new

not_or : (dotted rest : Bool) → dotted ≡ false → not dotted || rest ≡ true
not_or true rest h = absurd (false≢true (sym h))
not_or false rest h = refl

or_true : (a b : Bool) → b ≡ true → a || b ≡ true
or_true true b h = refl
or_true false b h = h

front_fits : (P : Label → Type 0) (labels : Labels) (l : Label) (ws : List Word) → All (λ p. P p.1) labels → (has_label ws ≡ true → P l)
    → All (λ p. P p.1) (define_front labels l ws)
front_fits P labels l (Name name ∷ Colon ∷ ws) h new =
    front_fits P (define labels l name) l ws (define_fits P labels l name h (λ d. new (not_or (is_dotted name) (has_label ws) d)))
    (λ k. new (or_true (not (is_dotted name)) (has_label ws) k))
front_fits P labels l _ h new = h

pub index_grows : (lines : List (List ℕ)) (p : Position) → p.index ≤ (position_at_end p lines).index
unfolding behind
index_grows [] p = omega arith
index_grows (line ∷ lines) p = omega (arith, index_grows lines (after p (line_words line)))

pub address_grows : (p : Position) (ws : List Word) → 256 ≤ p.address → 256 ≤ (after p ws).address
unfolding behind
address_grows p ws h = omega arith

pub labels_fit : (labels : Labels) (end : ℕ) (lines : List (List ℕ)) (p : Position) (earlier : Labels) (number : ℕ) → end ≤ 65536 → 256 ≤ p.address
    → first_fault labels end p earlier number lines ≡ None
    → LabelsFit (position_at_end p lines).index earlier → LabelsFit (position_at_end p lines).index (labels_from p earlier lines)
labels_fit labels end [] p earlier number le low none fits = fits
labels_fit labels end (line ∷ lines) p earlier number le low none fits =
    let ws = line_words line in
    let two = found_none number (line_fault labels end p earlier line)
    (first_fault labels end (after p ws) (with_labels p earlier ws) (number + 1) lines) none in
    let past = not_past labels end p (repeats p earlier ws) (length line) (words_of line) two.0 in
    labels_fit labels end lines (after p ws) (with_labels p earlier ws) (number + 1) le (address_grows p ws low) two.1
    (front_fits (LabelFits (position_at_end p (line ∷ lines)).index) earlier (label_here p) ws fits
    (here_fits end (position_at_end p (line ∷ lines)).index p.section p.index p.address (has_label ws) le low (index_grows (line ∷ lines) p) past))
