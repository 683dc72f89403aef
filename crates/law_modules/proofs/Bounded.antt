-- The labels of a program stand at addresses up to the end of its data.
use Rattle.std.proofs.Common.{◌≡◌, ℕ, ◌+◌, ◌≤◌, List, [], ◌∷◌, length, map, None, sym, ap, ◌∙◌, subst, length-append, arith}
use Rattle.std.specs.Prelude.{All}
use Rattle.std.proofs.lemmas.List.Elements.{All-nil, All-append}
use Rattle.mx_source.specs.declared.Label.{Label}
use Rattle.mx_source.specs.declared.Label.TheVariants as label
use Rattle.mx_asm.specs.declared.Position.{Position}
use Rattle.mx_asm.specs.declared.Section.{Section}
use Rattle.mx_asm.specs.declared.Section.TheVariants as section
use Rattle.mx_lines.specs.Words.{Word, Name, Colon}
use Rattle.mx_lines.specs.Instructions.{Labels}
use Rattle.mx_lines.specs.LabelTable.{IsNear}
use Rattle.mx_asm.specs.Positions.{define, define_front, with_labels, labels_from, label_at, label_here, after, behind, line_words, position_at_end}
use Rattle.mx_asm.specs.Faults.{first_fault}
use Rattle.mx_asm.specs.Texts.{effects_from, values_in}
use Rattle.mx_asm.proofs.LabelBounds.{define_fits}
use Rattle.mx_asm.proofs.Sourced.{LinesFit, lines_fit}
use Rattle.mx_module.specs.Modules.{ModuleValue, modules_from, behind_text, plain_lines}
use Rattle.mx_module.specs.Joined.{seen_in, line_of, fault_in_lines, effects_in, renamed, labels_in}
use Rattle.mx_module.proofs.Appended.{values_both}
use Rattle.mx_module.proofs.Chained.{Chained, first, first_room, first_near, next}
use Rattle.mx_module.proofs.Exported.{refusal_none}
use Rattle.mx_module.proofs.Sounded.{AllLabels, line_none, renamed_have}

-- a data label that stands at this address or before
abbrev pub IsUpTo : ℕ → Label → Type 0
IsUpTo end (label.Code i) = Unit {0}
IsUpTo end (label.Data a) = a ≤ end

abbrev pub AllUpTo : ℕ → Labels → Type 0
AllUpTo end labels = All (λ (p : List ℕ × Label). IsUpTo end p.1) labels

here_up : (end : ℕ) (s : Section) (index address : ℕ) → address ≤ end → IsUpTo end (label_at s index address)
here_up end section.Code index address h = tt
here_up end section.Data index address h = h

front_up : (end : ℕ) (labels : Labels) (l : Label) (ws : List Word) → AllUpTo end labels → IsUpTo end l → AllUpTo end (define_front labels l ws)
front_up end labels l (Name name ∷ Colon ∷ ws) h new = front_up end (define labels l name) l ws (define_fits (IsUpTo end) labels l name h (λ d. new)) new
front_up end labels l _ h new = h

-- addresses grow, up to 65537
address_on : (p : Position) (ws : List Word) → p.address ≤ 65537 → (p.address ≤ (after p ws).address) × ((after p ws).address ≤ 65537)
unfolding behind
address_on p ws h = (omega arith, omega arith)

pub lines_on : (lines : List (List ℕ)) (p : Position) → p.address ≤ 65537
    → (p.address ≤ (position_at_end p lines).address) × ((position_at_end p lines).address ≤ 65537)
lines_on [] p h = (omega arith, h)
lines_on (line ∷ lines) p h =
    let here = address_on p (line_words line) h in
    let rest = lines_on lines (after p (line_words line)) here.1 in
    (omega (arith, here.0, rest.0), rest.1)

pub labels_up : (lines : List (List ℕ)) (p : Position) (labels : Labels) → p.address ≤ 65537 → AllUpTo (position_at_end p lines).address labels
    → AllUpTo (position_at_end p lines).address (labels_from p labels lines)
labels_up [] p labels near h = h
labels_up (line ∷ lines) p labels near h =
    let here = address_on p (line_words line) near in
    let end = (position_at_end p (line ∷ lines)).address in
    labels_up lines (after p (line_words line)) (with_labels p labels (line_words line)) here.1
    (front_up end labels (label_here p) (line_words line) h (here_up end p.section p.index p.address (lines_on (line ∷ lines) p near).0))

up_more : (j k : ℕ) → j ≤ k → (l : Label) → IsUpTo j l → IsUpTo k l
up_more j k le (label.Code i) h = tt
up_more j k le (label.Data a) h = omega (arith, le, h)

all_up_more : (j k : ℕ) → j ≤ k → (es : Labels) → AllUpTo j es → AllUpTo k es
all_up_more j k le es h = λ i d lt. up_more j k le _ (h i d lt)

-- in modules without faults
pub modules_up : (all rest : List ModuleValue) (place : ℕ) (h : Chained rest) → fault_in_lines all place rest ≡ None
    → AllUpTo (h.from.address + length (values_in (effects_in all place rest))) (labels_in place rest)
modules_up all [] place h none = All-nil (λ (p : List ℕ × Label). IsUpTo (h.from.address + 0) p.1)
modules_up all (m ∷ rest) place h none =
    let seen = seen_in all place m in
    let own = effects_from seen m.start 1 m.lines in
    let later = effects_in all (place + 1) rest in
    let two = refusal_none (line_of place (first_fault seen 65536 m.start [] 1 m.lines)) (fault_in_lines all (place + 1) rest) none in
    let clear = line_none place (first_fault seen 65536 m.start [] 1 m.lines) two.0 in
    let near = first_near m rest h in
    let l : LinesFit seen 65536 m.start m.lines = lines_fit seen 65536 m.start m.lines clear (omega arith) (first_room m rest h) near in
    let f = first m rest h in
    let behind_it = modules_up all rest (place + 1) (next m rest h l.few l.within) two.1 in
    let from : m.start.address ≡ h.from.address = ap (λ (p : Position). p.address) f.begins in
    let many : length (values_in (effects_in all place (m ∷ rest))) ≡ length (values_in own) + length (values_in later) =
    ap length (values_both own later) ∙ length-append (values_in own) (values_in later) in
    let words = l.words in
    let end = h.from.address + length (values_in (effects_in all place (m ∷ rest))) in
    let labels : AllUpTo (position_at_end m.start m.lines).address m.labels = subst (AllUpTo (position_at_end m.start m.lines).address) (sym f.labels)
    (labels_up m.lines m.start [] (omega (arith, near)) (All-nil (λ (p : List ℕ × Label). IsUpTo (position_at_end m.start m.lines).address p.1))) in
    All-append (λ (p : List ℕ × Label). IsUpTo end p.1) (map (renamed m place) m.labels) (labels_in (place + 1) rest)
    (renamed_have (IsUpTo end) m place m.labels (all_up_more (position_at_end m.start m.lines).address end (omega (arith, from, many, words)) m.labels labels))
    (all_up_more ((position_at_end m.start m.lines).address + length (values_in later)) end (omega (arith, from, many, words))
    (labels_in (place + 1) rest) behind_it)

near_label : (l : Label) → IsUpTo 65537 l → IsNear l
near_label (label.Code i) h = tt
near_label (label.Data a) h = h

-- all labels of modules stand at 65,537 or before
pub texts_near : (texts : List (List ℕ)) (p : Position) → p.address ≤ 65537 → AllLabels IsNear (modules_from p texts)
texts_near [] p h = tt
texts_near (text ∷ texts) p h =
    let lines = plain_lines text in
    let end = (position_at_end p lines).address in
    let up = labels_up lines p [] h (All-nil (λ (q : List ℕ × Label). IsUpTo end q.1)) in
    let on = (lines_on lines p h).1 in
    ((λ i d lt. near_label _ (up_more end 65537 on _ (up i d lt))), texts_near texts (behind_text p text) on)
