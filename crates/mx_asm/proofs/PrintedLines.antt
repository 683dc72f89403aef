-- The lines of a canonical text, each with what it does.
use Rattle.std.proofs.Common.{◌≡◌, ℕ, suc, ◌+◌, ◌≤◌, ◌<◌, Bool, true, false, cond, ◌&&◌, ◌||◌, List, [], ◌∷◌, ◌++◌, length, Some, None, Ok, refl, ap, ◌∙◌, arith}
use Rattle.std.specs.Prelude.{not, is_some, min, nat_le, nat_lt, codes}
use Rattle.std.specs.List.{list_any}
use Rattle.std.proofs.lemmas.Bool.Decides.{nat_tests}
use Rattle.std.proofs.lemmas.List.{length-append}
use Rattle.mx_lex.specs.declared.token.Kind.TheVariants as kinds
use Rattle.mx_source.specs.declared.statement.Label.{Label}
use Rattle.mx_source.specs.declared.statement.Statement.{Statement}
use Rattle.mx_source.specs.declared.statement.Value.{Value}
use Rattle.mx_lines.specs.declared.fault.Fault.TheVariants.{DuplicateLabel, BadDirective, TooManyInstructions, DataFull, LineTooLong}
use Rattle.mx_asm.specs.declared.position.Section.{Section}
use Rattle.mx_asm.specs.declared.position.Section.TheVariants as section
use Rattle.mx_asm.specs.declared.position.Position.{Position}
use Rattle.mx_lines.specs.Words.{Word, Name, Number, Comma, Open, Close, Hash, Colon, End}
use Rattle.mx_lines.specs.Operands.{label_named}
use Rattle.mx_lines.specs.Instructions.{Labels}
use Rattle.mx_asm.specs.Directives.{Effect, Nothing, Instruction, Data, Input, effect_of, directed, directive_named, is_dotted}
use Rattle.mx_asm.specs.Positions.{statement_words, begins_label, front_names, has_dotted_label, instruction_count, word_count, behind, after, label_here, define, define_front, is_repeated}
use Rattle.mx_asm.specs.Faults.{is_data, stands_past, is_full, layout_fault, least_fault, words_fault, repeats}
use Rattle.mx_asm.specs.Printable.{IsLabelName}
use Rattle.mx_asm.proofs.Counts.{effect_counts}
use Rattle.mx_asm.proofs.Spelled.{Splits, splits_end, splits_name, splits_mark, is_colon}
use Rattle.mx_asm.proofs.Spellings.{Says}
use Rattle.mx_asm.proofs.Readback.{Finder, Finds, Steps}
use Rattle.mx_asm.proofs.Tabled.{either, one, finds_more}

-- a position
abbrev pub at : Section → ℕ → ℕ → Position
at s i a = record { section = s; index = i; address = a }

-- nothing but a statement's own fault
faultless : (p p' : Position) (long : ℕ) (words : List Word) → after p words ≡ p' → has_dotted_label words ≡ false → p'.index ≤ 20000 → p'.address ≤ 65536
    → long ≤ 255
    → stands_past 65536 p words ≡ false → layout_fault 65536 p long words ≡ None
faultless p p' long words to plain few near short stands =
    ap (λ t. cond t (Some BadDirective)
    (cond (nat_lt 20000 (after p words).index) (Some TooManyInstructions)
    (cond (is_full 65536 p words) (Some DataFull) (cond (nat_lt 255 long) (Some LineTooLong) None)))) plain
    ∙ ap (λ q. cond (nat_lt 20000 q.index) (Some TooManyInstructions)
    (cond (nat_lt 65536 q.address || stands_past 65536 p words) (Some DataFull) (cond (nat_lt 255 long) (Some LineTooLong) None))) to
    ∙ ap (λ t. cond t (Some TooManyInstructions)
    (cond (nat_lt 65536 p'.address || stands_past 65536 p words) (Some DataFull) (cond (nat_lt 255 long) (Some LineTooLong) None)))
    (under 20000 p'.index few)
    ∙ ap (λ t. cond (t || stands_past 65536 p words) (Some DataFull) (cond (nat_lt 255 long) (Some LineTooLong) None)) (under 65536 p'.address near)
    ∙ ap (λ t. cond t (Some DataFull) (cond (nat_lt 255 long) (Some LineTooLong) None)) stands
    ∙ ap (λ t. cond t (Some LineTooLong) None) (under 255 long short)
  where
    under : (most n : ℕ) → n ≤ most → nat_lt most n ≡ false
    under most n h = grind (arith, nat_tests)

no_fault : (K : Labels) (p : Position) (repeated : Bool) (long : ℕ) (words : List Word) (e : Effect) → repeated ≡ false
    → effect_of K p.section (statement_words words) ≡ Ok e → layout_fault 65536 p long words ≡ None → words_fault K 65536 p repeated long (Ok words) ≡ None
no_fault K p repeated long words e once says fits =
    ap (λ r. least_fault repeated r (layout_fault 65536 p long words)) says
    ∙ ap (λ t. cond t (Some DuplicateLabel) (layout_fault 65536 p long words)) once
    ∙ fits

-- a line without labels
record IsPlain (words : List Word) : Type 0 where
  statement : statement_words words ≡ words
  names : front_names words ≡ []
  defines : (earlier : Labels) (l : Label) → define_front earlier l words ≡ earlier
  repeats_none : (earlier : Labels) (l : Label) → is_repeated earlier l words ≡ false

plain_words : (words : List Word) → begins_label words ≡ false → IsPlain words
plain_words [] h = record { statement = refl; names = refl; defines = λ k l. refl; repeats_none = λ k l. refl }
plain_words (Name n ∷ []) h = record { statement = refl; names = refl; defines = λ k l. refl; repeats_none = λ k l. refl }
plain_words (Name n ∷ Colon ∷ ws) h = cc
plain_words (Name n ∷ Name m ∷ ws) h = record { statement = refl; names = refl; defines = λ k l. refl; repeats_none = λ k l. refl }
plain_words (Name n ∷ Number s v ∷ ws) h = record { statement = refl; names = refl; defines = λ k l. refl; repeats_none = λ k l. refl }
plain_words (Name n ∷ Comma ∷ ws) h = record { statement = refl; names = refl; defines = λ k l. refl; repeats_none = λ k l. refl }
plain_words (Name n ∷ Open ∷ ws) h = record { statement = refl; names = refl; defines = λ k l. refl; repeats_none = λ k l. refl }
plain_words (Name n ∷ Close ∷ ws) h = record { statement = refl; names = refl; defines = λ k l. refl; repeats_none = λ k l. refl }
plain_words (Name n ∷ Hash ∷ ws) h = record { statement = refl; names = refl; defines = λ k l. refl; repeats_none = λ k l. refl }
plain_words (Name n ∷ End ∷ ws) h = record { statement = refl; names = refl; defines = λ k l. refl; repeats_none = λ k l. refl }
plain_words (Number s v ∷ ws) h = record { statement = refl; names = refl; defines = λ k l. refl; repeats_none = λ k l. refl }
plain_words (Comma ∷ ws) h = record { statement = refl; names = refl; defines = λ k l. refl; repeats_none = λ k l. refl }
plain_words (Open ∷ ws) h = record { statement = refl; names = refl; defines = λ k l. refl; repeats_none = λ k l. refl }
plain_words (Close ∷ ws) h = record { statement = refl; names = refl; defines = λ k l. refl; repeats_none = λ k l. refl }
plain_words (Hash ∷ ws) h = record { statement = refl; names = refl; defines = λ k l. refl; repeats_none = λ k l. refl }
plain_words (Colon ∷ ws) h = record { statement = refl; names = refl; defines = λ k l. refl; repeats_none = λ k l. refl }
plain_words (End ∷ ws) h = record { statement = refl; names = refl; defines = λ k l. refl; repeats_none = λ k l. refl }

-- a line without labels, by its effect and the position behind it
plain_steps : (all f : Finder) (p p' : Position) (line : List ℕ) (e : Effect) (words : List Word) → Splits line words → begins_label words ≡ false
    → behind p words ≡ p' → length line ≤ 255
    → p'.index ≤ 20000 → p'.address ≤ 65536 → ((K : Labels) → Finds K all → effect_of K p.section words ≡ Ok e) → Steps all f f p p' line e
plain_steps all f p p' line e words splits front to short few near says =
    let plain = plain_words words front in
    let moved : after p words ≡ p' = ap (behind p) plain.statement ∙ to in
    let read = λ (K : Labels) (same : Finds K all). ap (effect_of K p.section) plain.statement ∙ says K same in
    record {
      words = words;
      splits = splits;
      position = moved;
      table = λ earlier h name. ap (λ t. label_named t name) (plain.defines earlier (label_here p)) ∙ h name;
      fault = λ K same earlier h. no_fault K p (repeats p earlier words) (length line) words e (plain.repeats_none earlier (label_here p)) (read K same)
          (faultless p p' (length line) words moved (ap (list_any is_dotted) plain.names) few near short (unlabelled p words plain.names));
      effect = read;
    }
  where
    and_false : (b c : Bool) → ((b && false) && c) ≡ false
    and_false true c = refl
    and_false false c = refl

    unlabelled : (p : Position) (words : List Word) → front_names words ≡ [] → stands_past 65536 p words ≡ false
    unlabelled p words none =
        ap (λ ns. (is_data p.section && list_any (λ name. not (is_dotted name)) ns) && nat_le 65536 p.address) none
        ∙ and_false (is_data p.section) (nat_le 65536 p.address)

module _ (labels : Labels) (f : Finder) where
  -- a statement
  pub statement_steps : (i : ℕ) (line : List ℕ) (s : Statement) → i < 20000 → Says labels section.Code line (Instruction s)
      → Steps (label_named labels) f f (at section.Code i 256) (at section.Code (suc i) 256) line (Instruction s)
  unfolding behind
  statement_steps i line s few says =
      let c = effect_counts labels section.Code says.words (Instruction s) (says.effect labels (λ name. refl)) in
      let one_more : i + instruction_count says.words ≡ suc i = omega (arith, c.statements) in
      let same : min (256 + word_count says.words) 65537 ≡ 256 = omega (arith, c.words) in
      plain_steps (label_named labels) f (at section.Code i 256) (at section.Code (suc i) 256) line (Instruction s) says.words says.splits says.front
      (ap (λ s. at s (i + instruction_count says.words) (min (256 + word_count says.words) 65537)) says.section
      ∙ ap (λ n. at section.Code n (min (256 + word_count says.words) 65537)) one_more
      ∙ ap (at section.Code (suc i)) same)
      says.short (omega arith) (omega arith) says.effect

  -- a data word
  pub word_steps : (i a : ℕ) (line : List ℕ) (v : Value) → i ≤ 20000 → a < 65536 → Says labels section.Data line (Data (v ∷ []))
      → Steps (label_named labels) f f (at section.Data i a) (at section.Data i (suc a)) line (Data (v ∷ []))
  unfolding behind
  word_steps i a line v few near says =
      let c = effect_counts labels section.Data says.words (Data (v ∷ [])) (says.effect labels (λ name. refl)) in
      let same : i + instruction_count says.words ≡ i = omega (arith, c.statements) in
      let one_more : min (a + word_count says.words) 65537 ≡ suc a = omega (arith, c.words) in
      plain_steps (label_named labels) f (at section.Data i a) (at section.Data i (suc a)) line (Data (v ∷ [])) says.words says.splits says.front
      (ap (λ s. at s (i + instruction_count says.words) (min (a + word_count says.words) 65537)) says.section
      ∙ ap (λ n. at section.Data n (min (a + word_count says.words) 65537)) same
      ∙ ap (at section.Data i) one_more)
      says.short few (omega arith) says.effect

  -- the line of the data section
  pub section_steps : (all : Finder) (i : ℕ) → i ≤ 20000 → Steps all f f (at section.Code i 256) (at section.Data i 256) (codes ".data") Nothing
  unfolding behind effect_of directed directive_named
  section_steps all i few =
      let same : i + 0 ≡ i = omega arith in
      plain_steps all f (at section.Code i 256) (at section.Data i 256) (codes ".data") Nothing (Name (codes ".data") ∷ [])
      (splits_name (codes ".data") [] [] refl refl splits_end) refl
      (ap (λ n. at section.Data n 256) same) (omega arith) few (omega arith) (λ K h. refl)

  -- the line of the input
  pub input_steps : (all : Finder) → Steps all f f (at section.Code 0 256) (at section.Code 0 256) (codes ".input") Input
  unfolding behind effect_of directed directive_named
  input_steps all =
      plain_steps all f (at section.Code 0 256) (at section.Code 0 256) (codes ".input") Input (Name (codes ".input") ∷ [])
      (splits_name (codes ".input") [] [] refl refl splits_end) refl
      refl (omega arith) (omega arith) (omega arith) (λ K h. refl)

-- a label may stand at this position
pub record Here (p : Position) (l : Label) : Type 0 where
  pub is : label_here p ≡ l
  pub few : p.index ≤ 20000
  pub near : p.address ≤ 65536
  pub below : (is_data p.section && nat_le 65536 p.address) ≡ false

stays : (p : Position) → p.address ≤ 65536 → behind p [] ≡ p
unfolding behind
stays p near =
    let a : p.index + 0 ≡ p.index = omega arith in
    let b : min (p.address + 0) 65537 ≡ p.address = omega arith in
    ap (λ n. at p.section n (min (p.address + 0) 65537)) a ∙ ap (at p.section p.index) b

module _ (all f : Finder) (p : Position) (name : List ℕ) (l : Label) (ok : IsLabelName name) (here : Here p l) (fresh : f name ≡ None) where
  abbrev marked : List Word
  marked = Name name ∷ Colon ∷ []

  dotted_none : (is_dotted name || false) ≡ false
  dotted_none = ap (λ t. t || false) ok.undotted

  absent : (earlier : Labels) → Finds earlier f → is_some (label_named earlier name) ≡ false
  absent earlier h = ap is_some (h name ∙ fresh)

  added : (earlier : Labels) → Finds earlier f → define earlier (label_here p) name ≡ earlier ++ (name, l) ∷ []
  unfolding define
  added earlier h =
      ap (λ t. cond (t || is_some (label_named earlier name)) earlier (earlier ++ (name, label_here p) ∷ [])) ok.undotted
      ∙ ap (λ t. cond t earlier (earlier ++ (name, label_here p) ∷ [])) (absent earlier h)
      ∙ ap (λ l. earlier ++ (name, l) ∷ []) here.is

  once : (earlier : Labels) → Finds earlier f → is_repeated earlier (label_here p) marked ≡ false
  once earlier h =
      ap (λ t. (not t && is_some (label_named earlier name)) || false) ok.undotted
      ∙ ap (λ t. t || false) (absent earlier h)

  inside : stands_past 65536 p marked ≡ false
  inside = ap (λ t. (is_data p.section && (not t || false)) && nat_le 65536 p.address) ok.undotted ∙ by_section (is_data p.section) here.below
    where
      by_section : (b : Bool) → (b && nat_le 65536 p.address) ≡ false → ((b && (not false || false)) && nat_le 65536 p.address) ≡ false
      by_section true h = h
      by_section false h = refl

  short : length (name ++ codes ":") ≤ 255
  short = let l : length (name ++ codes ":") ≡ length name + 1 = length-append name (codes ":") in omega (arith, ok.short)

  -- the line of a label
  pub label_steps : Steps all f (λ n. either (f n) (one name l n)) p p (name ++ codes ":") Nothing
  unfolding effect_of
  label_steps = record {
    words = marked;
    splits = splits_name name (58 ∷ []) (Colon ∷ []) ok.spelled refl (splits_mark 58 kinds.Colon Colon is_colon [] [] splits_end);
    position = stays p here.near;
    table = λ earlier h n. ap (λ t. label_named t n) (added earlier h) ∙ finds_more earlier f name l h n;
    fault = λ K same earlier h. no_fault K p (repeats p earlier marked) (length (name ++ codes ":")) marked Nothing (once earlier h) refl
        (faultless p p (length (name ++ codes ":")) marked (stays p here.near) dotted_none here.few here.near short inside);
    effect = λ K same. refl;
  }
