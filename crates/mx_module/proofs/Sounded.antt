-- The source of a program without faults keeps to what each source does.
use Rattle.std.proofs.Common.{◌≡◌, ℕ, suc, zero, ◌+◌, ◌≤◌, ◌||◌, Bool, true, false, cond, List, [], ◌∷◌, ◌++◌, length, map, take, drop, Option, Some, None, refl, ap, sym, ◌∙◌, subst, length-append, arith}
use Rattle.std.specs.Prelude.{All, IfSome}
use Rattle.std.specs.Str.{bytes_eq}
use Rattle.std.proofs.lemmas.Bool.{false≢true}
use Rattle.std.proofs.lemmas.List.Elements.{All-nil, All-cons, All-head, All-tail, All-append}
use Rattle.mx_source.specs.declared.Label.{Label}
use Rattle.mx_source.specs.declared.Label.TheVariants as label
use Rattle.mx_source.specs.declared.Statement.{Statement}
use Rattle.mx_source.specs.declared.Statement.TheVariants.{Plain, LaCode, Branch, Call, CallReg, JumpReg, Halt}
use Rattle.mx_source.specs.declared.Value.{Value}
use Rattle.mx_source.specs.declared.Value.TheVariants.{Int, Code}
use Rattle.mx_source.specs.Labels.{LabelFits, IsPlace, names_index, is_labelled}
use Rattle.mx_source.specs.Statements.{StatementFits, ValueFits}
use Rattle.mx_source.specs.SourceValue.{IsSource}
use Rattle.mx_lines.specs.declared.Fault.{Fault}
use Rattle.mx_asm.specs.declared.Position.{Position}
use Rattle.mx_lines.specs.Instructions.{Labels}
use Rattle.mx_lines.specs.Fitting.{LabelsFit}
use Rattle.mx_lines.specs.Operands.{label_named}
use Rattle.mx_asm.specs.Positions.{position_at_end}
use Rattle.mx_asm.specs.Faults.{first_fault}
use Rattle.mx_asm.specs.Texts.{effects_from, statements_in, lines_in, values_in}
use Rattle.mx_asm.proofs.LabelBounds.{define_fits, labels_fit}
use Rattle.mx_asm.proofs.Sourced.{LinesFit, lines_fit}
use Rattle.mx_lines.proofs.Tables.{lookup_All}
use Rattle.mx_module.specs.declared.link.LinkKind.{LinkKind}
use Rattle.mx_module.specs.declared.link.LinkKind.TheVariants.{Import, Export}
use Rattle.mx_module.specs.Links.{Link}
use Rattle.mx_module.specs.Modules.{ModuleValue}
use Rattle.mx_module.specs.LinkFaults.{is_exported, first_exporter, or_exporter, exporter}
use Rattle.mx_module.specs.Joined.{AreApart, label_in, with_label, with_import, with_imports, seen_in, line_of, fault_in_lines, effects_in, renamed, labels_in, program}
use Rattle.mx_module.specs.ModuleView.{IsProgram}
use Rattle.mx_module.proofs.Appended.{statements_both, lines_both, values_both}
use Rattle.mx_module.proofs.Chained.{Chained, first, first_room, first_near, first_low, next, program_chained}
use Rattle.mx_module.proofs.Exported.{refusal_none}

-- what fits where some places are, fits where more are
statement_more : (P Q : ℕ → Type 0) → ((i : ℕ) → P i → Q i) → (s : Statement) → StatementFits P s → StatementFits Q s
statement_more P Q f (Plain inst) h = h
statement_more P Q f (LaCode dest target) h = f target h
statement_more P Q f (Branch a b condition target) h = f target h
statement_more P Q f (Call dest target) h = f target h
statement_more P Q f (CallReg a dest) h = tt
statement_more P Q f (JumpReg a) h = tt
statement_more P Q f Halt h = tt

value_more : (P Q : ℕ → Type 0) → ((i : ℕ) → P i → Q i) → (v : Value) → ValueFits P v → ValueFits Q v
value_more P Q f (Int word) h = tt
value_more P Q f (Code i) h = f i h

pub all_more : {A : Type 0} (P Q : A → Type 0) → ((x : A) → P x → Q x) → (xs : List A) → All P xs → All Q xs
all_more P Q f xs h = λ k d lt. f _ (h k d lt)

label_more : (n k : ℕ) → n ≤ k → (l : Label) → LabelFits n l → LabelFits k l
label_more n k le (label.Code i) h = omega (arith, le, h)
label_more n k le (label.Data a) h = h

-- what holds of each label of modules
abbrev pub AllLabels : (Label → Type 0) → List ModuleValue → Type 0
AllLabels P [] = Unit {0}
AllLabels P (m ∷ ms) = All (λ (p : List ℕ × Label). P p.1) m.labels × AllLabels P ms

module _ (P : Label → Type 0) where
  all_front : (k : ℕ) (ms : List ModuleValue) → AllLabels P ms → AllLabels P (take k ms)
  all_front zero [] h = tt
  all_front (suc k) [] h = tt
  all_front zero (m ∷ ms) h = tt
  all_front (suc k) (m ∷ ms) h = (h.0, all_front k ms h.1)

  all_behind : (k : ℕ) (ms : List ModuleValue) → AllLabels P ms → AllLabels P (drop k ms)
  all_behind zero [] h = tt
  all_behind (suc k) [] h = tt
  all_behind zero (m ∷ ms) h = h
  all_behind (suc k) (m ∷ ms) h = all_behind k ms h.1

  chosen : (b : Bool) (m : ModuleValue) (o : Option ModuleValue) (n : List ℕ) → IfSome (label_named m.labels n) P → IfSome (label_in o n) P
      → IfSome (label_in (cond b (Some m) o) n) P
  chosen true m o n h k = h
  chosen false m o n h k = k

  first_has : (ms : List ModuleValue) (n : List ℕ) → AllLabels P ms → IfSome (label_in (first_exporter ms n) n) P
  first_has [] n h = tt
  first_has (m ∷ ms) n h = chosen (is_exported m n) m (first_exporter ms n) n (lookup_All P (bytes_eq n) m.labels h.0) (first_has ms n h.1)

  or_has : (a b : Option ModuleValue) (n : List ℕ) → IfSome (label_in a n) P → IfSome (label_in b n) P → IfSome (label_in (or_exporter a b) n) P
  or_has (Some m) b n h k = h
  or_has None b n h k = k

  with_has : (labels : Labels) (n : List ℕ) (o : Option Label) → All (λ (p : List ℕ × Label). P p.1) labels → IfSome o P
      → All (λ (p : List ℕ × Label). P p.1) (with_label labels n o)
  with_has labels n (Some l) h k = define_fits P labels l n h (λ d. k)
  with_has labels n None h k = h

  -- under new names
  pub renamed_have : (m : ModuleValue) (place : ℕ) (labels : Labels) → All (λ (p : List ℕ × Label). P p.1) labels
      → All (λ (p : List ℕ × Label). P p.1) (map (renamed m place) labels)
  renamed_have m place [] h = All-nil (λ (p : List ℕ × Label). P p.1)
  renamed_have m place (l ∷ labels) h =
      All-cons (λ (p : List ℕ × Label). P p.1) (renamed m place l) (map (renamed m place) labels) (All-head (λ (p : List ℕ × Label). P p.1) l labels h)
      (renamed_have m place labels (All-tail (λ (p : List ℕ × Label). P p.1) l labels h))

  module _ (all : List ModuleValue) (place : ℕ) (own : AllLabels P all) where
    import_has : (labels : Labels) (kind : LinkKind) (name : Option (List ℕ)) → All (λ (p : List ℕ × Label). P p.1) labels
        → All (λ (p : List ℕ × Label). P p.1) (with_import all place labels kind name)
    import_has labels Import (Some n) h =
        with_has labels n (label_in (exporter all place n) n) h
        (or_has (first_exporter (take place all) n) (first_exporter (drop (place + 1) all) n) n
        (first_has (take place all) n (all_front place all own)) (first_has (drop (place + 1) all) n (all_behind (place + 1) all own)))
    import_has labels Import None h = h
    import_has labels Export name h = h

    pub imports_have : (links : List Link) (labels : Labels) → All (λ (p : List ℕ × Label). P p.1) labels
        → All (λ (p : List ℕ × Label). P p.1) (with_imports all place labels links)
    imports_have [] labels h = h
    imports_have (l ∷ links) labels h = imports_have links (with_import all place labels l.kind l.name) (import_has labels l.kind l.name h)

-- each module sees labels that fit, and places that the program has
abbrev Covers : (ℕ → Type 0) → ℕ → List ModuleValue → ℕ → List ModuleValue → Type 0
Covers Place count all place [] = Unit {0}
Covers Place count all place (m ∷ ms) =
    LabelsFit count (seen_in all place m) × ((i : ℕ) → IsPlace (seen_in all place m) count i → Place i) × Covers Place count all (place + 1) ms

-- what the lines of these modules do
record Fit (all : List ModuleValue) (place : ℕ) (rest : List ModuleValue) (from : Position) : Type 1 where
  last : Position
  count : from.index + length (statements_in (effects_in all place rest)) ≡ last.index
  each : length (lines_in (effects_in all place rest)) ≡ length (statements_in (effects_in all place rest))
  words : from.address + length (values_in (effects_in all place rest)) ≡ last.address
  few : last.index ≤ 20000
  within : last.address ≤ 65536
  labels : AllLabels (LabelFits last.index) rest
  statements : (Place : ℕ → Type 0) → Covers Place last.index all place rest → All (StatementFits Place) (statements_in (effects_in all place rest))
  values : (Place : ℕ → Type 0) → Covers Place last.index all place rest → All (ValueFits Place) (values_in (effects_in all place rest))

pub line_none : (place : ℕ) (f : Option (ℕ × Fault)) → line_of place f ≡ None → f ≡ None
line_none place None h = refl
line_none place (Some found) h = cc

fits : (all rest : List ModuleValue) (place : ℕ) (h : Chained rest) → fault_in_lines all place rest ≡ None → Fit all place rest h.from
fits all [] place h none = record {
  last = h.from;
  count = omega arith;
  each = refl;
  words = omega arith;
  few = h.room;
  within = h.near;
  labels = tt;
  statements = λ Place covers. All-nil (StatementFits Place);
  values = λ Place covers. All-nil (ValueFits Place);
}
fits all (m ∷ rest) place h none =
    let seen = seen_in all place m in
    let own = effects_from seen m.start 1 m.lines in
    let later = effects_in all (place + 1) rest in
    let two = refusal_none (line_of place (first_fault seen 65536 m.start [] 1 m.lines)) (fault_in_lines all (place + 1) rest) none in
    let clear = line_none place (first_fault seen 65536 m.start [] 1 m.lines) two.0 in
    let l : LinesFit seen 65536 m.start m.lines = lines_fit seen 65536 m.start m.lines clear (omega arith) (first_room m rest h) (first_near m rest h) in
    let r = fits all rest (place + 1) (next m rest h l.few l.within) two.1 in
    let f = first m rest h in
    let grows : (position_at_end m.start m.lines).index ≤ r.last.index = (let k = r.count in omega (arith, k)) in
    let defined : LabelsFit (position_at_end m.start m.lines).index m.labels = subst (LabelsFit (position_at_end m.start m.lines).index) (sym f.labels)
    (labels_fit seen 65536 m.lines m.start [] 1 (omega arith) (first_low m rest h) clear
    (All-nil (λ (p : List ℕ × Label). LabelFits (position_at_end m.start m.lines).index p.1))) in
    record {
      last = r.last;
      count = (let a = ap length (statements_both own later) ∙ length-append (statements_in own) (statements_in later) in
          let b = l.count in let c = r.count in let d = ap (λ (p : Position). p.index) f.begins in omega (arith, a, b, c, d));
      each = (let a = ap length (statements_both own later) ∙ length-append (statements_in own) (statements_in later) in
          let b = ap length (lines_both own later) ∙ length-append (lines_in own) (lines_in later) in
          let c = l.each in let d = r.each in omega (arith, a, b, c, d));
      words = (let a = ap length (values_both own later) ∙ length-append (values_in own) (values_in later) in
          let b = l.words in let c = r.words in let d = ap (λ (p : Position). p.address) f.begins in omega (arith, a, b, c, d));
      few = r.few;
      within = r.within;
      labels = (
        all_more (λ (p : List ℕ × Label). LabelFits (position_at_end m.start m.lines).index p.1) (λ (p : List ℕ × Label). LabelFits r.last.index p.1)
            (λ p. label_more (position_at_end m.start m.lines).index r.last.index grows p.1) m.labels defined,
        r.labels,
      );
      statements = λ Place covers. subst (All (StatementFits Place)) (sym (statements_both own later))
          (All-append (StatementFits Place) (statements_in own) (statements_in later)
          (all_more (StatementFits (IsPlace seen r.last.index)) (StatementFits Place) (statement_more (IsPlace seen r.last.index) Place covers.1)
          (statements_in own) (l.statements_fit r.last.index covers.0))
          (r.statements Place covers.2));
      values = λ Place covers. subst (All (ValueFits Place)) (sym (values_both own later))
          (All-append (ValueFits Place) (values_in own) (values_in later)
          (all_more (ValueFits (IsPlace seen r.last.index)) (ValueFits Place) (value_more (IsPlace seen r.last.index) Place covers.1) (values_in own)
          (l.values_fit r.last.index covers.0))
          (r.values Place covers.2));
    }

-- each label of a module is one of the program
or_true : (a b : Bool) → b ≡ true → a || b ≡ true
or_true true b h = refl
or_true false b h = h

or_left : (a b : Bool) → a ≡ true → a || b ≡ true
or_left true b h = refl
or_left false b h = absurd (false≢true h)

abbrev IsLabelled : Labels → Label → Type 0
IsLabelled J l = (i : ℕ) → names_index i l ≡ true → is_labelled J i ≡ true

left_labelled : (i : ℕ) (xs ys : Labels) → is_labelled xs i ≡ true → is_labelled (xs ++ ys) i ≡ true
left_labelled i [] ys h = absurd (false≢true h)
left_labelled i (x ∷ xs) ys h = by (names_index i x.1) h (left_labelled i xs ys)
  where
    by : (b : Bool) → b || is_labelled xs i ≡ true → (is_labelled xs i ≡ true → is_labelled (xs ++ ys) i ≡ true) → b || is_labelled (xs ++ ys) i ≡ true
    by true h k = refl
    by false h k = k h

right_labelled : (i : ℕ) (xs ys : Labels) → is_labelled ys i ≡ true → is_labelled (xs ++ ys) i ≡ true
right_labelled i [] ys h = h
right_labelled i (x ∷ xs) ys h = or_true (names_index i x.1) (is_labelled (xs ++ ys) i) (right_labelled i xs ys h)

own_labelled : (J : Labels) (m : ModuleValue) (k : ℕ) (es : Labels) → ((i : ℕ) → is_labelled (map (renamed m k) es) i ≡ true → is_labelled J i ≡ true)
    → All (λ (p : List ℕ × Label). IsLabelled J p.1) es
own_labelled J m k [] up = All-nil (λ (p : List ℕ × Label). IsLabelled J p.1)
own_labelled J m k (e ∷ es) up =
    All-cons (λ (p : List ℕ × Label). IsLabelled J p.1) e es
    (λ i is. up i (or_left (names_index i e.1) (is_labelled (map (renamed m k) es) i) is))
    (own_labelled J m k es (λ i is. up i (or_true (names_index i e.1) (is_labelled (map (renamed m k) es) i) is)))

all_labelled : (J : Labels) (k : ℕ) (ms : List ModuleValue) → ((i : ℕ) → is_labelled (labels_in k ms) i ≡ true → is_labelled J i ≡ true)
    → AllLabels (IsLabelled J) ms
all_labelled J k [] up = tt
all_labelled J k (m ∷ ms) up = (
  own_labelled J m k m.labels (λ i is. up i (left_labelled i (map (renamed m k) m.labels) (labels_in (k + 1) ms) is)),
  all_labelled J (k + 1) ms (λ i is. up i (right_labelled i (map (renamed m k) m.labels) (labels_in (k + 1) ms) is)),
)

any_labelled : (J es : Labels) (i : ℕ) → All (λ (p : List ℕ × Label). IsLabelled J p.1) es → is_labelled es i ≡ true → is_labelled J i ≡ true
any_labelled J [] i h is = absurd (false≢true is)
any_labelled J (e ∷ es) i h is =
    by (names_index i e.1) is (All-head (λ (p : List ℕ × Label). IsLabelled J p.1) e es h i)
    (any_labelled J es i (All-tail (λ (p : List ℕ × Label). IsLabelled J p.1) e es h))
  where
    by : (b : Bool) → b || is_labelled es i ≡ true → (b ≡ true → is_labelled J i ≡ true) → (is_labelled es i ≡ true → is_labelled J i ≡ true)
        → is_labelled J i ≡ true
    by true is f g = f refl
    by false is f g = g is

covered : (J : Labels) (count : ℕ) (all : List ModuleValue) (place : ℕ) (rest : List ModuleValue) → AllLabels (LabelFits count) all
    → AllLabels (IsLabelled J) all
    → AllLabels (LabelFits count) rest → AllLabels (IsLabelled J) rest → Covers (IsPlace J count) count all place rest
covered J count all place [] fit named own names = tt
covered J count all place (m ∷ rest) fit named own names = (
  imports_have (LabelFits count) all place fit m.links m.labels own.0,
  (λ i p. record {
    within = p.within;
    labelled =
        any_labelled J (seen_in all place m) i (imports_have (IsLabelled J) all place named m.links m.labels names.0) p.labelled;
  }),
  covered J count all (place + 1) rest fit named own.1 names.1,
)

program_labels : (count k : ℕ) (ms : List ModuleValue) → AllLabels (LabelFits count) ms → LabelsFit count (labels_in k ms)
program_labels count k [] h = All-nil (λ (p : List ℕ × Label). LabelFits count p.1)
program_labels count k (m ∷ ms) h =
    All-append (λ (p : List ℕ × Label). LabelFits count p.1) (map (renamed m k) m.labels) (labels_in (k + 1) ms) (renamed_have
    (LabelFits count) m k m.labels h.0)
    (program_labels count (k + 1) ms h.1)

pub program_sound : (ms : List ModuleValue) → IsProgram ms → fault_in_lines ms 0 ms ≡ None → AreApart (labels_in 0 ms) → IsSource (program ms)
program_sound ms h none apart =
    let r = fits ms ms 0 (program_chained h.texts ms h.same) none in
    let J = labels_in 0 ms in
    let count : length (statements_in (effects_in ms 0 ms)) ≡ r.last.index = (let k = r.count in omega (arith, k)) in
    let named = all_labelled J 0 ms (λ i is. is) in
    let covers = covered J r.last.index ms 0 ms r.labels named r.labels named in
    record {
      few_statements = (let k = r.few in omega (arith, k, count));
      few_words = (let a = r.words in let b = r.within in omega (arith, a, b));
      a_line_each = r.each;
      labels_fit = subst (λ n. LabelsFit n J) (sym count) (program_labels r.last.index 0 ms r.labels);
      statements_fit = subst (λ n. All (StatementFits (IsPlace J n)) (statements_in (effects_in ms 0 ms))) (sym count)
          (r.statements (IsPlace J r.last.index) covers);
      words_fit = subst (λ n. All (ValueFits (IsPlace J n)) (values_in (effects_in ms 0 ms))) (sym count) (r.values (IsPlace J r.last.index) covers);
      distinct = apart;
    }
