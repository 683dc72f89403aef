-- The labels of lines name the statements after them.
use Rattle.std.proofs.Common.{◌≡◌, ℕ, ◌+◌, ◌≤◌, Bool, true, false, cond, ◌||◌, ◌&&◌, List, [], ◌∷◌, ◌++◌, length, Option, Some, None, Result, Ok, Err, inl, inr, refl, sym, ap, ◌∙◌, arith, append_assoc}
use Rattle.std.specs.Prelude.{All, count_by, is_some, not}
use Rattle.std.specs.List.{list_any}
use Rattle.std.specs.Str.{bytes_eq}
use Rattle.std.proofs.lemmas.Slice.Eq.{bytes_eq-Decides}
use Rattle.std.proofs.lemmas.List.Elements.{All-head, All-tail, All-nil, All-cons}
use Rattle.std.proofs.lemmas.Grind.{flat_map-append}
use Rattle.mx_lex.specs.Lines.{lines_of}
use Rattle.mx_source.specs.declared.statement.Label.{Label}
use Rattle.mx_source.specs.declared.statement.Label.TheVariants as label
use Rattle.mx_source.specs.declared.statement.Statement.{Statement}
use Rattle.mx_source.specs.SourceValue.{SourceValue}
use Rattle.mx_lines.specs.declared.fault.Fault.{Fault}
use Rattle.mx_lines.specs.declared.fault.Fault.TheVariants.{BadDirective}
use Rattle.mx_lines.specs.declared.labels.TheConstants.{PAST_END}
use Rattle.mx_lines.specs.Instructions.{Labels}
use Rattle.mx_lines.specs.Operands.{label_named}
use Rattle.mx_lines.specs.Words.{Word, Name, Number, Comma, Open, Close, Hash, Colon, End, words_of}
use Rattle.mx_asm.specs.declared.position.Position.{Position}
use Rattle.mx_asm.specs.Directives.{Effect, effect_of, is_dotted}
use Rattle.mx_asm.specs.Positions.{front_names, statement_words, line_words, words_or_none, is_defined, is_repeated, has_dotted_label, define, with_labels, labels_from, label_here, after}
use Rattle.mx_asm.specs.Faults.{first_fault, least_fault, words_fault, layout_fault, place_fault, repeats}
use Rattle.mx_asm.specs.Texts.{ReadsAs as TextReadsAs, source_of, text_effects, text_labels, text_fault}
use Rattle.cc_program.specs.declared.program.Program.{Program}
use Rattle.cc_emit.specs.declared.line.Line.{Line}
use Rattle.cc_emit.specs.Lines.{is_statement, line_text, lines_text}
use Rattle.cc_emit.specs.Sources.{title, code_text}
use Rattle.law_emit.specs.Reading.{Reads, LineFits, line_names, line_statement, statement_count, code_at}
use Rattle.law_emit.specs.Lines.{define_all, code_labels}
use Rattle.law_emit.proofs.Lines.{index_after, counts, define_names, labels_step, lines_labels, sound_line, title_reads}
use Rattle.law_emit.proofs.Statements.{line_reads}

-- what is found stays found
more_found : (labels more : Labels) (name : List ℕ) (l : Label) → label_named labels name ≡ Some l → label_named (labels ++ more) name ≡ Some l
more_found [] more name l h = cc
more_found (e ∷ labels) more name l h = by_name (bytes_eq name e.0) h (λ k. more_found labels more name l k)
  where
    by_name : (t : Bool) → cond t (Some e.1) (label_named labels name) ≡ Some l
        → (label_named labels name ≡ Some l → label_named (labels ++ more) name ≡ Some l)
        → cond t (Some e.1) (label_named (labels ++ more) name) ≡ Some l
    by_name true k others = k
    by_name false k others = others k

define_keeps : (labels : Labels) (l : Label) (own : List ℕ) (name : List ℕ) (found : Label) → label_named labels name ≡ Some found
    → label_named (define labels l own) name ≡ Some found
unfolding define
define_keeps labels l own name found h = by_test (is_dotted own || is_some (label_named labels own))
  where
    by_test : (t : Bool) → label_named (cond t labels (labels ++ (own, l) ∷ [])) name ≡ Some found
    by_test true = h
    by_test false = more_found labels ((own, l) ∷ []) name found h

all_keep : (labels : Labels) (l : Label) (names : List (List ℕ)) (name : List ℕ) (found : Label) → label_named labels name ≡ Some found
    → label_named (define_all labels l names) name ≡ Some found
all_keep labels l [] name found h = h
all_keep labels l (own ∷ names) name found h = all_keep (define labels l own) l names name found (define_keeps labels l own name found h)

rest_keeps : (p : Position) (labels : Labels) (lines : List (List ℕ)) (name : List ℕ) (found : Label) → label_named labels name ≡ Some found
    → label_named (labels_from p labels lines) name ≡ Some found
rest_keeps p labels [] name found h = h
rest_keeps p labels (line ∷ lines) name found h =
    rest_keeps (after p (line_words line)) (with_labels p labels (line_words line)) lines name found
    (ap (λ ls. label_named ls name) (define_names labels (label_here p) (line_words line))
    ∙ all_keep labels (label_here p) (front_names (line_words line)) name found h)

-- a new label is found
last_found : (labels : Labels) (name : List ℕ) (l : Label) → is_some (label_named labels name) ≡ false → label_named (labels ++ (name, l) ∷ []) name ≡ Some l
last_found [] name l h = ap (λ t. cond t (Some l) None) ((bytes_eq-Decides name name).1 refl)
last_found (e ∷ labels) name l h = by_name (bytes_eq name e.0) h (λ k. last_found labels name l k)
  where
    by_name : (t : Bool) → is_some (cond t (Some e.1) (label_named labels name)) ≡ false
        → (is_some (label_named labels name) ≡ false → label_named (labels ++ (name, l) ∷ []) name ≡ Some l)
        → cond t (Some e.1) (label_named (labels ++ (name, l) ∷ []) name) ≡ Some l
    by_name true k others = cc
    by_name false k others = others k

new_found : (labels : Labels) (l : Label) (name : List ℕ) → is_dotted name ≡ false → is_defined labels name ≡ false
    → label_named (define labels l name) name ≡ Some l
unfolding define
new_found labels l name undotted undefined =
    let absent : is_some (label_named labels name) ≡ false =
    ap (λ t. not t && is_some (label_named labels name)) (sym undotted) ∙ undefined in
    ap (λ t. label_named (cond (t || is_some (label_named labels name)) labels (labels ++ (name, l) ∷ [])) name) undotted
    ∙ ap (λ t. label_named (cond t labels (labels ++ (name, l) ∷ [])) name) absent
    ∙ last_found labels name l absent

-- what a line without a fault says of its labels
abbrev repeated_by : Labels → Label → List (List ℕ) → Bool
repeated_by labels l [] = false
repeated_by labels l (name ∷ names) = is_defined labels name || repeated_by (define labels l name) l names

repeated_names : (labels : Labels) (l : Label) (words : List Word) → is_repeated labels l words ≡ repeated_by labels l (front_names words)
repeated_names labels l [] = refl
repeated_names labels l (Name n ∷ []) = refl
repeated_names labels l (Name n ∷ Colon ∷ ws) = ap (λ t. is_defined labels n || t) (repeated_names (define labels l n) l ws)
repeated_names labels l (Name n ∷ Name m ∷ ws) = refl
repeated_names labels l (Name n ∷ Number s v ∷ ws) = refl
repeated_names labels l (Name n ∷ Comma ∷ ws) = refl
repeated_names labels l (Name n ∷ Open ∷ ws) = refl
repeated_names labels l (Name n ∷ Close ∷ ws) = refl
repeated_names labels l (Name n ∷ Hash ∷ ws) = refl
repeated_names labels l (Name n ∷ End ∷ ws) = refl
repeated_names labels l (Number s v ∷ ws) = refl
repeated_names labels l (Comma ∷ ws) = refl
repeated_names labels l (Open ∷ ws) = refl
repeated_names labels l (Close ∷ ws) = refl
repeated_names labels l (Hash ∷ ws) = refl
repeated_names labels l (Colon ∷ ws) = refl
repeated_names labels l (End ∷ ws) = refl

layout_dots : (end : ℕ) (p : Position) (long : ℕ) (words : List Word) → layout_fault end p long words ≡ None → has_dotted_label words ≡ false
layout_dots end p long words h = by_dot (has_dotted_label words) h
  where
    by_dot : (t : Bool) → cond t (Some BadDirective) (place_fault end p long words) ≡ None → t ≡ false
    by_dot true k = cc
    by_dot false k = refl

least_once : (repeated : Bool) (r : Result Effect Fault) (o : Option Fault) → least_fault repeated r o ≡ None → (repeated ≡ false) × (o ≡ None)
least_once repeated (Err fault) o h = cc
least_once true (Ok e) o h = cc
least_once false (Ok e) o h = (refl, h)

words_once : (K : Labels) (end : ℕ) (p : Position) (repeated : Bool) (long : ℕ) (r : Result (List Word) Fault) → words_fault K end p repeated long r ≡ None
    → (repeated ≡ false) × (has_dotted_label (words_or_none r) ≡ false)
words_once K end p repeated long (Err fault) h = cc
words_once K end p repeated long (Ok words) h =
    let once = least_once repeated (effect_of K p.section (statement_words words)) (layout_fault end p long words) h in
    (once.0, layout_dots end p long words once.1)

either_none : (x y : Bool) → x || y ≡ false → x ≡ false
either_none true y h = cc
either_none false y h = refl

-- the faults of what follows a text
faults_step : (K : Labels) (end : ℕ) (text : List ℕ) (names : List (List ℕ)) (count : ℕ) (said : Option (Result Statement Fault))
    → Reads K text names count said → (index address : ℕ) → address ≤ PAST_END → (earlier : Labels) (number : ℕ) (rest : List ℕ)
    → first_fault K end (code_at index address) earlier number (lines_of (text ++ rest)) ≡ None
    → (later : ℕ) × (first_fault K end (code_at (index + count) address) (define_all earlier (label.Code index) names) later (lines_of rest) ≡ None)
faults_step K end text names count said (inl s) index address near earlier number rest h =
    let same : index + 0 ≡ index = omega arith in (
      number,
      ap (λ ns. first_fault K end (code_at (index + count) address) (define_all earlier (label.Code index) ns) number (lines_of rest)) s.unlabelled
          ∙ ap (λ n. first_fault K end (code_at (index + n) address) earlier number (lines_of rest)) s.uncounted
          ∙ ap (λ n. first_fault K end (code_at n address) earlier number (lines_of rest)) same
          ∙ ap (λ t. first_fault K end (code_at index address) earlier number (lines_of (t ++ rest))) (sym s.untold)
          ∙ h,
    )
faults_step K end text names count said (inr r) index address near earlier number rest h =
    let both = sound_line K end (code_at index address) earlier number r.line (lines_of (text ++ rest)) (lines_of rest) (r.alone rest) h in
    let own = define_names earlier (label.Code index) (line_words r.line) ∙ ap (define_all earlier (label.Code index)) r.labelled in (
      number + 1,
      ap (λ ls. first_fault K end (code_at (index + count) address) ls (number + 1) (lines_of rest)) (sym own)
          ∙ ap (λ p. first_fault K end p (with_labels (code_at index address) earlier (line_words r.line)) (number + 1) (lines_of rest))
          (sym (r.next index address near))
          ∙ both.1,
    )

lines_faults : (K : Labels) (end : ℕ) (p : Program) (lines : List Line) → All (LineFits p) lines → (index address : ℕ) → address ≤ PAST_END
    → (earlier : Labels) (number : ℕ) (rest : List ℕ) → first_fault K end (code_at index address) earlier number (lines_of (lines_text p lines ++ rest)) ≡ None
    → (later : ℕ) × (first_fault K end (code_at (index_after index lines) address) (code_labels p index earlier lines) later (lines_of rest) ≡ None)
lines_faults K end p [] fits index address near earlier number rest h = (number, h)
lines_faults K end p (line ∷ lines) fits index address near earlier number rest h =
    let flat = append_assoc (line_text p line) (lines_text p lines) rest in
    let one = faults_step K end (line_text p line) (line_names p line) (statement_count line) (line_statement K p line)
    (line_reads p line (All-head (LineFits p) line lines fits) K) index address near earlier number (lines_text p lines ++ rest)
    (ap (λ t. first_fault K end (code_at index address) earlier number (lines_of t)) (sym flat) ∙ h) in
    lines_faults K end p lines (All-tail (LineFits p) line lines fits) (index + statement_count line) address near
    (define_all earlier (label.Code index) (line_names p line)) one.0 rest one.1

-- one label, at its line
name_found : (K : Labels) (end : ℕ) (text : List ℕ) (name : List ℕ) (names : List (List ℕ)) (count : ℕ) (said : Option (Result Statement Fault))
    → names ≡ name ∷ [] → Reads K text names count said → (index address : ℕ) (earlier : Labels) (number : ℕ) (rest : List ℕ)
    → first_fault K end (code_at index address) earlier number (lines_of (text ++ rest)) ≡ None
    → label_named (define_all earlier (label.Code index) names) name ≡ Some (label.Code index)
name_found K end text name names count said one (inl s) index address earlier number rest h = let none : [] ≡ name ∷ [] = sym s.unlabelled ∙ one in cc
name_found K end text name names count said one (inr r) index address earlier number rest h =
    let from = code_at index address in
    let l = label.Code index in
    let words = line_words r.line in
    let both = sound_line K end from earlier number r.line (lines_of (text ++ rest)) (lines_of rest) (r.alone rest) h in
    let once = words_once K end from (repeats from earlier words) (length r.line) (words_of r.line) both.0 in
    let own : front_names words ≡ name ∷ [] = r.labelled ∙ one in
    let undotted = either_none (is_dotted name) false (ap (list_any is_dotted) (sym own) ∙ once.1) in
    let undefined = either_none (is_defined earlier name) false (sym (repeated_names earlier l words ∙ ap (repeated_by earlier l) own) ∙ once.0) in
    ap (λ ns. label_named (define_all earlier l ns) name) one ∙ new_found earlier l name undotted undefined

front_fits : (p : Program) (before after : List Line) → All (LineFits p) (before ++ after) → All (LineFits p) before × All (LineFits p) after
front_fits p [] after h = (All-nil (LineFits p), h)
front_fits p (line ∷ before) after h =
    let more = front_fits p before after (All-tail (LineFits p) line (before ++ after) h) in
    (All-cons (LineFits p) line before (All-head (LineFits p) line (before ++ after) h) more.0, more.1)

pub labels_found : (p : Program) (before after : List Line) (line : Line) → All (LineFits p) (before ++ line ∷ after) → (address end : ℕ)
    → address ≤ PAST_END → (rest : List ℕ) → (source : SourceValue) → TextReadsAs address end (code_text p (before ++ line ∷ after) ++ rest) source
    → (name : List ℕ) → line_names p line ≡ name ∷ [] → label_named source.labels name ≡ Some (label.Code (count_by is_statement before))
unfolding text_fault source_of text_effects text_labels
labels_found p before after line fits address end near rest source h name one =
    let from = code_at 0 address in
    let text = code_text p (before ++ line ∷ after) ++ rest in
    let last = lines_text p after ++ rest in
    let more = line_text p line ++ last in
    let K : Labels = labels_from from [] (lines_of text) in
    let flat : text ≡ title ++ (lines_text p before ++ more) = flat_text p before after line rest in
    let parts = front_fits p before (line ∷ after) fits in
    let index = index_after 0 before in
    let earlier = code_labels p 0 [] before in
    let reads = line_reads p line (All-head (LineFits p) line after parts.1) in
    let begun = faults_step K end title [] 0 None (title_reads K) 0 address near [] 1 (lines_text p before ++ more)
    (ap (λ t. first_fault K end from [] 1 (lines_of t)) (sym flat) ∙ h.faultless) in
    let passed = lines_faults K end p before parts.0 0 address near [] begun.0 more begun.1 in
    let found = name_found K end (line_text p line) name (line_names p line) (statement_count line) (line_statement K p line) one (reads K) index
    address earlier passed.0 last passed.1 in
    let all : K ≡ labels_from (code_at (index + statement_count line) address) (define_all earlier (label.Code index) (line_names p line)) (lines_of last) =
    ap (λ t. labels_from from [] (lines_of t)) flat
    ∙ labels_step [] title [] 0 None (title_reads []) 0 address near [] (lines_text p before ++ more)
    ∙ lines_labels p before parts.0 0 address near [] more
    ∙ labels_step [] (line_text p line) (line_names p line) (statement_count line) (line_statement [] p line) (reads []) index address near earlier last in
    ap (λ s. label_named s.labels name) h.same
    ∙ ap (λ ls. label_named ls name) all
    ∙ rest_keeps (code_at (index + statement_count line) address) (define_all earlier (label.Code index) (line_names p line)) (lines_of last) name
    (label.Code index) found
    ∙ ap (λ n. Some (label.Code n)) (counts before)
  where
    flat_text : (p : Program) (before after : List Line) (line : Line) (rest : List ℕ)
        → code_text p (before ++ line ∷ after) ++ rest ≡ title ++ (lines_text p before ++ (line_text p line ++ (lines_text p after ++ rest)))
    flat_text p before after line rest =
        ap (λ t. title ++ t ++ rest) (flat_map-append (line_text p) before (line ∷ after))
        ∙ append_assoc title (lines_text p before ++ (line_text p line ++ lines_text p after)) rest
        ∙ ap (λ t. title ++ t) (append_assoc (lines_text p before) (line_text p line ++ lines_text p after) rest
        ∙ ap (λ t. lines_text p before ++ t) (append_assoc (line_text p line) (lines_text p after) rest))
