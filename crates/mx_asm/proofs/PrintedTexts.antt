-- The canonical text of a printable source reads back.
use Rattle.std.proofs.Common.{◌≡◌, ℕ, suc, ◌+◌, ◌≤◌, ◌<◌, Bool, true, false, cond, ◌||◌, List, [], ◌∷◌, ◌++◌, length, get_or, Option, Some, None, refl, sym, ap, ◌∙◌, subst, arith, append_assoc}
use Rattle.std.specs.Prelude.{Result, Ok, Err, IfOk, IfErr, All, is_some, nat_le, nat_lt, codes}
use Rattle.std.specs.List.{list_any}
use Rattle.std.specs.Str.{bytes_eq}
use Rattle.std.proofs.lemmas.Bool.Decides.{nat_tests}
use Rattle.std.proofs.lemmas.List.{append-nil}
use Rattle.std.proofs.lemmas.List.Elements.{All-nil, All-cons, All-head, All-tail}
use Rattle.mx_isa.specs.declared.board.TheConstants.{DATA_BASE, DATA_END}
use Rattle.mx_source.specs.declared.statement.Label.{Label}
use Rattle.mx_source.specs.declared.statement.Label.TheVariants as label
use Rattle.mx_source.specs.declared.statement.Statement.{Statement}
use Rattle.mx_source.specs.declared.statement.Value.{Value}
use Rattle.mx_source.specs.Labels.{LabelFits, names_index, names_address, is_data_label, IsPlace}
use Rattle.mx_source.specs.Statements.{StatementFits, ValueFits}
use Rattle.mx_source.specs.SourceValue.{SourceValue}
use Rattle.mx_source.specs.Printed.{ended, label_lines, statement_text, code_text, value_text, words_text, spelled, has_words, data_text, input_text, printed}
use Rattle.mx_asm.specs.declared.position.Section.TheVariants as section
use Rattle.mx_asm.specs.declared.position.Position.{Position}
use Rattle.mx_lines.specs.declared.fault.AsmError.{AsmError}
use Rattle.mx_lines.specs.declared.fault.AsmError.TheVariants.{Refused, Memory}
use Rattle.mx_asm.specs.Listings.{IsRefusal}
use Rattle.mx_lines.specs.Operands.{label_named}
use Rattle.mx_lines.specs.Instructions.{Labels}
use Rattle.mx_asm.specs.Directives.{Nothing, Instruction, Data, Input}
use Rattle.mx_asm.specs.Positions.{start}
use Rattle.mx_asm.specs.Texts.{text_labels, text_effects, text_fault, source_of, ReadsAs}
use Rattle.mx_asm.specs.Printable.{IsLabelName, IsWithin, NamesRegisters, IsWord, IsPrintable, IsSameProgram, ReadsBack, ReadsPrinted}
use Rattle.mx_asm.proofs.Spelled.{or_none}
use Rattle.mx_asm.proofs.Spellings.{statement_says, value_says}
use Rattle.mx_asm.proofs.Readback.{Finder, Finds, Good, step_good, nothing_good, from_same, to_same}
use Rattle.mx_asm.proofs.Tabled.{either, one, only, pick, Apart, are_apart, each_found, picks, either_only, either_more, only_all, only_no, code_of, are_placed}
use Rattle.mx_asm.proofs.PrintedLines.{at, Here, label_steps, statement_steps, word_steps, section_steps, input_steps}

either_none : (o : Option Label) → o ≡ either o None
either_none None = refl
either_none (Some l) = refl

either_fresh : (a b : Option Label) → a ≡ None → b ≡ None → either a b ≡ None
either_fresh a b h k = ap (λ o. either o b) h ∙ k

-- the lines of the labels of one place, before a text
module _ (all g : Finder) (names : Label → Bool) (p : Position) (rest : List ℕ) (ss : List Statement) (vs : List Value) (has : Bool) where
  Fresh : Finder → Labels → Type 0
  Fresh f ls = All (λ (e : List ℕ × Label). names e.1 ≡ true → f e.0 ≡ None) ls

  -- what the labels behind the first one make of the text
  Lines : Labels → Type 0
  Lines ls = (f : Finder) → Fresh f ls → Good all (λ n. either (f n) (pick names ls n)) g p rest ss vs has
      → Good all f g p (label_lines names ls ++ rest) ss vs has

  by_here : (e : List ℕ × Label) (es : Labels) (f : Finder) (here : Bool) → names e.1 ≡ here → IsLabelName e.0 → (names e.1 ≡ true → Here p e.1)
      → (names e.1 ≡ true → f e.0 ≡ None)
      → All (λ (x : List ℕ × Label). bytes_eq x.0 e.0 ≡ false) es → Fresh f es → Lines es
      → Good all (λ n. either (f n) (either (cond here (one e.0 e.1 n) None) (pick names es n))) g p rest ss vs has
      → Good all f g p ((cond here (ended (e.0 ++ codes ":")) [] ++ label_lines names es) ++ rest) ss vs has
  unfolding Lines Fresh
  by_here e es f true is ok here new apart fresh lines good =
      let f' : Finder = λ n. either (f n) (one e.0 e.1 n) in
      subst (λ t. Good all f g p t ss vs has) (sym (append_assoc (ended (e.0 ++ codes ":")) (label_lines names es) rest))
      (step_good all f f' g p p (e.0 ++ codes ":") (label_lines names es ++ rest) Nothing ss vs has (label_steps all f p e.0 e.1 ok (here is) (new is))
      (lines f' (λ k d lt h. either_fresh (f (get_or es k d).0) (one e.0 e.1 (get_or es k d).0) (fresh k d lt h)
      (ap (λ t. cond t (Some e.1) None) (apart k d lt)))
      (from_same all (λ n. either (f' n) (pick names es n)) (λ n. either (f n) (either (one e.0 e.1 n) (pick names es n))) g p rest ss vs has
      (λ n. either_more (f n) (one e.0 e.1 n) (pick names es n)) good)))
  by_here e es f false is ok here new apart fresh lines good = lines f fresh good

  label_lines_good : (ls : Labels) → All (λ (e : List ℕ × Label). IsLabelName e.0) ls → Apart ls
      → All (λ (e : List ℕ × Label). names e.1 ≡ true → Here p e.1) ls → Lines ls
  unfolding Lines Fresh
  label_lines_good [] ok apart here f fresh good = from_same all f (λ n. either (f n) None) g p rest ss vs has (λ n. either_none (f n)) good
  label_lines_good (e ∷ es) ok apart here f fresh good =
      by_here e es f (names e.1) refl (All-head (λ (x : List ℕ × Label). IsLabelName x.0) e es ok)
      (All-head (λ (x : List ℕ × Label). names x.1 ≡ true → Here p x.1) e es here)
      (All-head (λ (x : List ℕ × Label). names x.1 ≡ true → f x.0 ≡ None) e es fresh) apart.0
      (All-tail (λ (x : List ℕ × Label). names x.1 ≡ true → f x.0 ≡ None) e es fresh)
      (label_lines_good es (All-tail (λ (x : List ℕ × Label). IsLabelName x.0) e es ok) apart.1
      (All-tail (λ (x : List ℕ × Label). names x.1 ≡ true → Here p x.1) e es here)) good

-- the labels before an index and an address
abbrev upto : ℕ → ℕ → Label → Bool
upto i a (label.Code j) = nat_lt j i
upto i a (label.Data b) = nat_lt b a

or_false : (b : Bool) → b ≡ b || false
or_false true = refl
or_false false = refl

code_more : (i a : ℕ) (l : Label) → upto (suc i) a l ≡ upto i a l || names_index i l
code_more i a (label.Code j) = grind (arith, nat_tests)
code_more i a (label.Data b) = or_false (nat_lt b a)

code_new : (i a : ℕ) (l : Label) → names_index i l ≡ true → upto i a l ≡ false
code_new i a (label.Code j) h = grind (arith, nat_tests)
code_new i a (label.Data b) h = cc

data_more : (c a : ℕ) (l : Label) → upto c (suc a) l ≡ upto c a l || names_address a l
data_more c a (label.Code j) = or_false (nat_lt j c)
data_more c a (label.Data b) = grind (arith, nat_tests)

data_new : (c a : ℕ) (l : Label) → names_address a l ≡ true → upto c a l ≡ false
data_new c a (label.Code j) h = cc
data_new c a (label.Data b) h = grind (arith, nat_tests)

code_here : (i : ℕ) (l : Label) → i ≤ 20000 → names_index i l ≡ true → Here (at section.Code i 256) l
code_here i l few h = record { is = sym (code_of i l h); few = few; near = omega arith; below = refl }

data_of : (a : ℕ) (l : Label) → names_address a l ≡ true → l ≡ label.Data a
data_of a (label.Code j) h = cc
data_of a (label.Data b) h = let e : b ≡ a = grind (arith, nat_tests) in ap label.Data e

data_here : (count i a : ℕ) (l : Label) → i ≤ 20000 → LabelFits count l → names_address a l ≡ true → Here (at section.Data i a) l
data_here count i a l few fits h =
    let is : l ≡ label.Data a = data_of a l h in
    let fit : LabelFits count (label.Data a) = subst (LabelFits count) is fits in
    let low : a < 65536 = fit.1 in
    record { is = sym is; few = few; near = omega arith; below = under a low }
  where
    under : (a : ℕ) → a < 65536 → nat_le 65536 a ≡ false
    under a h = grind (arith, nat_tests)

module _ (labels : Labels) (count : ℕ) (few : count ≤ 20000) (ok : All (λ (e : List ℕ × Label). IsLabelName e.0) labels) (apart : Apart labels)
    (fits : All (λ (e : List ℕ × Label). LabelFits count e.1) labels) where
  abbrev found : Finder
  found = label_named labels

  abbrev passed : ℕ → ℕ → Finder
  passed i a n = only (upto i a) (found n)

  -- the labels of a place before a text
  place_good : (g : Finder) (names q r : Label → Bool) (p : Position) (rest : List ℕ) (ss : List Statement) (vs : List Value) (has : Bool)
      → ((l : Label) → r l ≡ q l || names l) → ((l : Label) → names l ≡ true → q l ≡ false) → All (λ (e : List ℕ × Label). names e.1 ≡ true → Here p e.1) labels
      → Good found (λ n. only r (found n)) g p rest ss vs has → Good found (λ n. only q (found n)) g p (label_lines names labels ++ rest) ss vs has
  unfolding Lines Fresh
  place_good g names q r p rest ss vs has more new here good =
      label_lines_good found g names p rest ss vs has labels ok apart here (λ n. only q (found n))
      (λ k d lt h. ap (only q) (each_found labels apart k d lt) ∙ ap (λ t. cond t (Some (get_or labels k d).1) None) (new (get_or labels k d).1 h))
      (from_same found (λ n. either (only q (found n)) (pick names labels n)) (λ n. only r (found n)) g p rest ss vs has
      (λ n. ap (either (only q (found n))) (picks names labels n apart) ∙ sym (either_only q names r more (found n))) good)

  code_place : (g : Finder) (i : ℕ) (rest : List ℕ) (ss : List Statement) (vs : List Value) (has : Bool) → i ≤ 20000
      → Good found (passed (suc i) 256) g (at section.Code i 256) rest ss vs has
      → Good found (passed i 256) g (at section.Code i 256) (label_lines (names_index i) labels ++ rest) ss vs has
  code_place g i rest ss vs has low good =
      place_good g (names_index i) (upto i 256) (upto (suc i) 256) (at section.Code i 256) rest ss vs has (code_more i 256) (code_new i 256)
      (λ k d lt h. code_here i (get_or labels k d).1 low h) good

  data_place : (g : Finder) (c i a : ℕ) (rest : List ℕ) (ss : List Statement) (vs : List Value) (has : Bool) → i ≤ 20000
      → Good found (passed c (suc a)) g (at section.Data i a) rest ss vs has
      → Good found (passed c a) g (at section.Data i a) (label_lines (names_address a) labels ++ rest) ss vs has
  data_place g c i a rest ss vs has low good =
      place_good g (names_address a) (upto c a) (upto c (suc a)) (at section.Data i a) rest ss vs has (data_more c a) (data_new c a)
      (λ k d lt h. data_here count i a (get_or labels k d).1 low (fits k d lt) h) good

  parts : (a b c rest : List ℕ) → ((a ++ b) ++ c) ++ rest ≡ a ++ (b ++ (c ++ rest))
  parts a b c rest = append_assoc (a ++ b) c rest ∙ append_assoc a b (c ++ rest)

  -- the code of a source, before a text
  code_good : (g : Finder) (ss : List Statement) (i k : ℕ) → k ≡ i + length ss → k ≤ 20000 → All (StatementFits (IsPlace labels count)) ss
      → All NamesRegisters ss
      → (rest : List ℕ) (more : List Statement) (vs : List Value) (has : Bool) → Good found (passed (suc k) 256) g (at section.Code k 256) rest more vs has
      → Good found (passed i 256) g (at section.Code i 256) (code_text labels i ss ++ rest) (ss ++ more) vs has
  code_good g [] i k e low fit names rest more vs has good =
      let same : k ≡ i = omega (arith, e) in
      code_place g i rest more vs has (omega arith) (subst (λ j. Good found (passed (suc j) 256) g (at section.Code j 256) rest more vs has) same good)
  code_good g (s ∷ ss) i k e low fit names rest more vs has good =
      let says = statement_says labels count (are_placed labels count ok apart) s (All-head (StatementFits (IsPlace labels count)) s ss fit)
      (All-head NamesRegisters s ss names) in
      let text = statement_text labels s in
      let tail = code_good g ss (suc i) k (omega (arith, e)) low (All-tail (StatementFits (IsPlace labels count)) s ss fit)
      (All-tail NamesRegisters s ss names) rest more vs has good in
      subst (λ t. Good found (passed i 256) g (at section.Code i 256) t (s ∷ ss ++ more) vs has)
      (sym (parts (label_lines (names_index i) labels) (ended text) (code_text labels (suc i) ss) rest))
      (code_place g i (ended text ++ (code_text labels (suc i) ss ++ rest)) (s ∷ ss ++ more) vs has (omega (arith, e))
      (step_good found (passed (suc i) 256) (passed (suc i) 256) g (at section.Code i 256) (at section.Code (suc i) 256) text
      (code_text labels (suc i) ss ++ rest) (Instruction s) (ss ++ more) vs has
      (statement_steps labels (passed (suc i) 256) i text s (omega (arith, e)) says) tail))

  -- the data words of a source
  pub words_good : (c i : ℕ) → i ≤ 20000 → (vs : List Value) (a b : ℕ) → b ≡ a + length vs → b ≤ 65536 → All (ValueFits (IsPlace labels count)) vs
      → All IsWord vs
      → Good found (passed c a) (passed c (suc b)) (at section.Data i a) (words_text labels a vs) [] vs false
  words_good c i low [] a b e most fit small =
      let same : b ≡ a = omega (arith, e) in
      subst (λ t. Good found (passed c a) (passed c (suc b)) (at section.Data i a) t [] [] false) (append-nil (label_lines (names_address a) labels))
      (data_place (passed c (suc b)) c i a [] [] [] false low
      (subst (λ j. Good found (passed c (suc j)) (passed c (suc b)) (at section.Data i a) [] [] [] false) same
      (nothing_good found (passed c (suc b)) (at section.Data i a))))
  words_good c i low (v ∷ vs) a b e most fit small =
      let says = value_says labels count (are_placed labels count ok apart) v (All-head (ValueFits (IsPlace labels count)) v vs fit)
      (All-head IsWord v vs small) in
      let text = spelled (codes ".word") (value_text labels v ∷ []) in
      let tail = words_good c i low vs (suc a) b (omega (arith, e)) most (All-tail (ValueFits (IsPlace labels count)) v vs fit) (All-tail IsWord v vs small) in
      subst (λ t. Good found (passed c a) (passed c (suc b)) (at section.Data i a) t [] (v ∷ vs) false)
      (sym (append_assoc (label_lines (names_address a) labels) (ended text) (words_text labels (suc a) vs)))
      (data_place (passed c (suc b)) c i a (ended text ++ words_text labels (suc a) vs) [] (v ∷ vs) false low
      (step_good found (passed c (suc a)) (passed c (suc a)) (passed c (suc b)) (at section.Data i a) (at section.Data i (suc a)) text
      (words_text labels (suc a) vs) (Data (v ∷ [])) [] vs false
      (word_steps labels (passed c (suc a)) i a text v low (omega (arith, e)) says) tail))

  -- all labels are passed at the end
  end_passes : (words : List Value) (l : Label) → LabelFits count l → IsWithin (length words) l → upto (suc count) (suc (256 + length words)) l ≡ true
  end_passes words (label.Code j) fit within = grind (arith, nat_tests)
  end_passes words (label.Data b) fit within = grind (arith, nat_tests)

  code_passes : (l : Label) → LabelFits count l → is_data_label l ≡ false → upto (suc count) 256 l ≡ true
  code_passes (label.Code j) fit h = grind (arith, nat_tests)
  code_passes (label.Data b) fit h = cc

  no_data : (es : Labels) → list_any (λ (p : List ℕ × Label). is_data_label p.1) es ≡ false → All (λ (e : List ℕ × Label). is_data_label e.1 ≡ false) es
  no_data [] h = All-nil (λ (e : List ℕ × Label). is_data_label e.1 ≡ false)
  no_data (e ∷ es) h = let both = or_none (is_data_label e.1) (list_any (λ (p : List ℕ × Label). is_data_label p.1) es) h in All-cons
      (λ (x : List ℕ × Label). is_data_label x.1 ≡ false) e es both.0 (no_data es both.1)

  no_words : (words : List Value) → has_words words ≡ false → words ≡ []
  no_words [] h = refl
  no_words (v ∷ vs) h = cc

  start_fails : (l : Label) → LabelFits count l → upto 0 256 l ≡ false
  start_fails (label.Code j) fit = grind (arith, nat_tests)
  start_fails (label.Data b) fit = grind (arith, nat_tests)

  module _ (words : List Value) (many : length words ≤ 65280) (fit : All (ValueFits (IsPlace labels count)) words) (small : All IsWord words)
      (within : All (λ (e : List ℕ × Label). IsWithin (length words) e.1) labels) where
    data_by : (has : Bool) → (has_words words || list_any (λ (p : List ℕ × Label). is_data_label p.1) labels) ≡ has
        → Good found (passed (suc count) 256) found (at section.Code count 256)
        (cond has (ended (codes ".data") ++ words_text labels 256 words) []) [] words false
    data_by true h =
        to_same found (passed (suc count) 256) (passed (suc count) (suc (256 + length words))) found (at section.Code count 256)
        (ended (codes ".data") ++ words_text labels 256 words) [] words false
        (λ n. only_all (upto (suc count) (suc (256 + length words))) labels n (λ k d lt. end_passes words (get_or labels k d).1 (fits k d lt) (within k d lt)))
        (step_good found (passed (suc count) 256) (passed (suc count) 256) (passed (suc count) (suc (256 + length words))) (at section.Code count 256)
        (at section.Data count 256) (codes ".data") (words_text labels 256 words) Nothing [] words false
        (section_steps labels (passed (suc count) 256) found count few)
        (words_good (suc count) count few words 256 (256 + length words) refl (omega arith) fit small))
    data_by false h =
        let both = or_none (has_words words) (list_any (λ (p : List ℕ × Label). is_data_label p.1) labels) h in
        subst (λ vs. Good found (passed (suc count) 256) found (at section.Code count 256) [] [] vs false) (sym (no_words words both.0))
        (to_same found (passed (suc count) 256) (passed (suc count) 256) found (at section.Code count 256) [] [] [] false
        (λ n. only_all (upto (suc count) 256) labels n (λ k d lt. code_passes (get_or labels k d).1 (fits k d lt) (no_data labels both.1 k d lt)))
        (nothing_good found (passed (suc count) 256) (at section.Code count 256)))

    data_good : Good found (passed (suc count) 256) found (at section.Code count 256) (data_text labels words) [] words false
    data_good = data_by (has_words words || list_any (λ (p : List ℕ × Label). is_data_label p.1) labels) refl

    module _ (ss : List Statement) (is : count ≡ length ss) (stated : All (StatementFits (IsPlace labels count)) ss) (registers : All NamesRegisters ss) where
      body : List ℕ
      body = code_text labels 0 ss ++ data_text labels words

      body_good : Good found (passed 0 256) found (at section.Code 0 256) body ss words false
      unfolding body
      body_good =
          subst (λ xs. Good found (passed 0 256) found (at section.Code 0 256) (code_text labels 0 ss ++ data_text labels words) xs words false) (append-nil ss)
          (code_good found ss 0 count (omega (arith, is)) few stated registers (data_text labels words) [] words false data_good)

      with_input : (input : Option ℕ)
          → Good found (passed 0 256) found (at section.Code 0 256) ((input_text input ++ code_text labels 0 ss) ++ data_text labels words) ss words
          (is_some input)
      unfolding body
      with_input None = body_good
      with_input (Some line) =
          subst (λ t. Good found (passed 0 256) found (at section.Code 0 256) t ss words true)
          (sym (append_assoc (ended (codes ".input")) (code_text labels 0 ss) (data_text labels words)))
          (step_good found (passed 0 256) (passed 0 256) found (at section.Code 0 256) (at section.Code 0 256) (codes ".input") body Input ss words false
          (input_steps labels (passed 0 256) found) body_good)

      -- from the start of a text on
      pub text_good : (input : Option ℕ)
          → Good found (λ n. None) found (start 256) ((input_text input ++ code_text labels 0 ss) ++ data_text labels words) ss words (is_some input)
      text_good input =
          from_same found (λ n. None) (passed 0 256) found (at section.Code 0 256)
          ((input_text input ++ code_text labels 0 ss) ++ data_text labels words) ss words (is_some input)
          (λ n. sym (only_no (upto 0 256) labels n (λ k d lt. start_fails (get_or labels k d).1 (fits k d lt)))) (with_input input)

-- a text whose lines say a source reads as it
reads_back : (s : SourceValue)
    → Good (label_named s.labels) (λ n. None) (label_named s.labels) (start 256) (printed s) s.statements s.user_data (is_some s.input) → ReadsBack s
unfolding text_labels text_effects text_fault source_of
reads_back s good =
    let same : Finds (text_labels 256 (printed s)) (label_named s.labels) = good.table [] (λ n. refl) in
    let reads = good.reads (text_labels 256 (printed s)) same [] (λ n. refl) 1 in
    record { faultless = reads.fault; same = record { statements = reads.statements; user_data = reads.values; input = reads.input; labels = same } }

-- the canonical text of a printable source
pub printed_reads : (s : SourceValue) → IsPrintable s → ReadsBack s
printed_reads s h =
    let apart = are_apart s.labels h.source.distinct in
    reads_back s
    (text_good s.labels (length s.statements) h.source.few_statements h.names apart h.source.labels_fit s.user_data h.source.few_words h.source.words_fit
    h.words h.within
    s.statements refl h.source.statements_fit h.registers s.input)

-- what is answered with the source that a text reads as, or its fault
pub printed_answer : (text : List ℕ) (result : Result SourceValue AsmError) → IfOk result (ReadsAs 256 65536 text)
    → IfErr result (IsRefusal (text_fault DATA_BASE DATA_END text)) → ReadsPrinted text result
printed_answer text (Ok t) read refused s h e =
    subst (IsSameProgram s) (sym (read.same ∙ ap (source_of DATA_BASE) e)) (printed_reads s h).same
printed_answer text (Err Memory) read refused s h e = refl
printed_answer text (Err (Refused line fault)) read refused s h e =
    let none : text_fault DATA_BASE DATA_END text ≡ None = ap (text_fault DATA_BASE DATA_END) e ∙ (printed_reads s h).faultless in
    cc
