-- The canonical text, statement by statement and word by word.
use Rattle.std.proofs.Common.{◌≡◌, ℕ, zero, suc, ◌+◌, true, false, ◌==◌, ◌||◌, List, [], ◌∷◌, ◌++◌, length, drop, codes, Some, refl, sym, ap, ◌∙◌, arith, add-one, append_assoc}
use Rattle.std.specs.Prelude.{map}
use Rattle.std.specs.List.{slice_get, list_any}
use Rattle.std.proofs.lemmas.Option.{none-some}
use Rattle.std.proofs.Math.Seq.{drop-length}
use Rattle.std.proofs.lemmas.List.{append-nil}
use Rattle.mx_source.specs.declared.name.Name.{Name}
use Rattle.mx_source.specs.declared.statement.Label.{Label}
use Rattle.mx_source.specs.declared.statement.Statement.{Statement}
use Rattle.mx_source.specs.declared.statement.Value.{Value}
use Rattle.mx_source.specs.Names.{named_labels}
use Rattle.mx_source.specs.Labels.{is_data_label, names_index, names_address}
use Rattle.mx_source.specs.Printed.{Labels, label_lines, spelled, statement_text, value_text, code_text, words_text, data_text, has_words, input_text, printed, ended}
use Rattle.mx_source.specs.SourceValue.{SourceValue}
use Rattle.std.proofs.lemmas.Bool.{cond-true, cond-false}
use Rattle.std.proofs.lemmas.Bool.Decides.{nat_tests}

some_inj : {A : Type 0} {x y : A} → Some x ≡ Some y → x ≡ y
some_inj e = cc

-- a list from an element on
pub drop-slice_get : {A : Type 0} (xs : List A) (i : ℕ) (x : A) → slice_get xs i ≡ Some x → drop i xs ≡ x ∷ drop (suc i) xs
drop-slice_get [] i x e = absurd (none-some x e)
drop-slice_get (y ∷ xs) zero x e = ap (λ z. z ∷ xs) (some_inj e)
drop-slice_get (y ∷ xs) (suc i) x e = drop-slice_get xs i x e

-- the data labels among labels
pub data_labels : (entries : List (Name × Label)) → list_any is_data_label (map (λ p. p.1) entries) ≡ list_any (λ p. is_data_label p.1) (named_labels entries)
data_labels [] = refl
data_labels (p ∷ entries) = ap (λ b. is_data_label p.1 || b) (data_labels entries)

regroup : (t a s n rest : List ℕ) → ((t ++ a) ++ s) ++ n ++ rest ≡ t ++ (a ++ (s ++ n) ++ rest)
regroup t a s n rest = simp append_assoc

-- one more statement
pub code_step : (labels : Labels) (statements : List Statement) (i : ℕ) (s : Statement) (text : List ℕ) → slice_get statements i ≡ Some s →
    (((text ++ label_lines (names_index i) labels) ++ statement_text labels s) ++ 10 ∷ []) ++ code_text labels (i + 1) (drop (i + 1) statements)
    ≡ text ++ code_text labels i (drop i statements)
code_step labels statements i s text e =
    rw add-one (regroup text (label_lines (names_index i) labels) (statement_text labels s) (10 ∷ []) (code_text labels (suc i) (drop (suc i) statements))
    ∙ ap (λ xs. text ++ code_text labels i xs) (sym (drop-slice_get statements i s e)))

-- one more data word
pub words_step : (labels : Labels) (words : List Value) (i : ℕ) (v : Value) (text : List ℕ) → slice_get words i ≡ Some v →
    (((text ++ label_lines (names_address (256 + i)) labels) ++ spelled (codes ".word") (value_text labels v ∷ [])) ++ 10 ∷ [])
    ++ words_text labels (256 + (i + 1)) (drop (i + 1) words)
    ≡ text ++ words_text labels (256 + i) (drop i words)
words_step labels words i v text e =
    ap (λ n. (((text ++ label_lines (names_address (256 + i)) labels) ++ spelled (codes ".word") (value_text labels v ∷ [])) ++ 10 ∷ [])
    ++ words_text labels n (drop (i + 1) words)) next
    ∙ (ap (λ n. (((text ++ label_lines (names_address (256 + i)) labels) ++ spelled (codes ".word") (value_text labels v ∷ [])) ++ 10 ∷ [])
    ++ words_text labels (suc (256 + i)) (drop n words)) (add-one i)
    ∙ (regroup text (label_lines (names_address (256 + i)) labels) (spelled (codes ".word") (value_text labels v ∷ []))
    (10 ∷ []) (words_text labels (suc (256 + i)) (drop (suc i) words))
    ∙ ap (λ xs. text ++ words_text labels (256 + i) xs) (sym (drop-slice_get words i v e))))
  where
    next : 256 + (i + 1) ≡ suc (256 + i)
    next = omega arith

-- the end of the statements
pub code_end : (labels : Labels) (statements : List Statement) (i : ℕ) → i ≡ length statements
    → code_text labels i (drop i statements) ≡ label_lines (names_index (length statements)) labels
code_end labels statements i e = ap (λ n. code_text labels n (drop n statements)) e
    ∙ ap (λ xs. code_text labels (length statements) xs) (drop-length statements)

-- the end of the data words
pub words_end : (labels : Labels) (words : List Value) (i : ℕ) → i ≡ length words
    → words_text labels (256 + i) (drop i words) ≡ label_lines (names_address (256 + length words)) labels
words_end labels words i e = ap (λ n. words_text labels (256 + n) (drop n words)) e ∙ ap (λ xs. words_text labels (256 + length words) xs) (drop-length words)

-- the parts of the canonical text
pub whole : (s : SourceValue) (labels : Labels) (statements : List Statement) (words : List Value) (t0 t1 t2 : List ℕ) →
    labels ≡ s.labels → statements ≡ s.statements → words ≡ s.user_data → t0 ≡ input_text s.input →
    t1 ≡ t0 ++ code_text labels 0 statements → t2 ≡ t1 ++ data_text labels words → t2 ≡ printed s
whole s labels statements words t0 t1 t2 l st w e0 e1 e2 =
    e2 ∙ (ap (λ t. t ++ data_text labels words) (e1 ∙ ap (λ t. t ++ code_text labels 0 statements) e0)
    ∙ (ap (λ ls. (input_text s.input ++ code_text ls 0 statements) ++ data_text ls words) l
    ∙ (ap (λ xs. (input_text s.input ++ code_text s.labels 0 xs) ++ data_text s.labels words) st
    ∙ ap (λ xs. (input_text s.input ++ code_text s.labels 0 s.statements) ++ data_text s.labels xs) w)))

-- the data section, where there is one
pub section_text : (labels : Labels) (entries : List (Name × Label)) (words : List Value) (old put new : List ℕ) →
    labels ≡ named_labels entries → (has_words words || list_any is_data_label (map (λ p. p.1) entries)) ≡ true →
    put ≡ old ++ codes ".data\n" → new ≡ put ++ words_text labels 256 words → new ≡ old ++ data_text labels words
section_text labels entries words old put new l some e1 e2 =
    e2 ∙ (ap (λ t. t ++ words_text labels 256 words) e1 ∙ (append_assoc old (codes ".data\n") (words_text labels 256 words)
    ∙ ap (λ t. old ++ t) (sym (cond-true (has_words words || list_any (λ p. is_data_label p.1) labels)
    (ended (codes ".data") ++ words_text labels 256 words) [] found))))
  where
    found : (has_words words || list_any (λ p. is_data_label p.1) labels) ≡ true
    found = ap (λ ls. has_words words || list_any (λ p. is_data_label p.1) ls) l ∙ (ap (λ b. has_words words || b) (sym (data_labels entries)) ∙ some)

-- no data section
pub no_section : (labels : Labels) (entries : List (Name × Label)) (words : List Value) (old : List ℕ) →
    labels ≡ named_labels entries → (has_words words || list_any is_data_label (map (λ p. p.1) entries)) ≡ false → old ≡ old ++ data_text labels words
no_section labels entries words old l none =
    sym (append-nil old) ∙ ap (λ t. old ++ t) (sym (cond-false (has_words words || list_any (λ p. is_data_label p.1) labels)
    (ended (codes ".data") ++ words_text labels 256 words) [] found))
  where
    found : (has_words words || list_any (λ p. is_data_label p.1) labels) ≡ false
    found = ap (λ ls. has_words words || list_any (λ p. is_data_label p.1) ls) l ∙ (ap (λ b. has_words words || b) (sym (data_labels entries)) ∙ none)

pub no_words : (words : List Value) → (length words == 0) ≡ true → has_words words ≡ false
no_words [] h = refl
no_words (v ∷ words) h = absurd (not_zero (length words) h)
  where
    not_zero : (n : ℕ) → (suc n == 0) ≡ true → ⊥
    not_zero n h = grind (arith, nat_tests)
