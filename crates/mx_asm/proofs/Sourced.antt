-- The source that a text without faults reads as keeps to what each source does.
use Rattle.std.proofs.Common.{◌≡◌, ℕ, ◌+◌, ◌≤◌, ◌||◌, List, [], ◌∷◌, ◌++◌, length, cond, Bool, true, false, Option, Some, None, Result, Ok, Err, refl, sym, ap, ◌∙◌, subst, arith}
use Rattle.std.specs.Prelude.{nat_lt, All}
use Rattle.std.proofs.lemmas.Bool.Decides.{nat_tests}
use Rattle.std.proofs.lemmas.List.{append-nil}
use Rattle.std.proofs.lemmas.List.Elements.{All-nil}
use Rattle.mx_lex.specs.Lines.{lines_of}
use Rattle.mx_source.specs.declared.statement.Label.{Label}
use Rattle.mx_source.specs.declared.statement.Statement.{Statement}
use Rattle.mx_source.specs.declared.statement.Value.{Value}
use Rattle.mx_source.specs.Labels.{LabelFits, IsPlace}
use Rattle.mx_source.specs.Statements.{StatementFits, ValueFits}
use Rattle.mx_source.specs.Names.{AreApart}
use Rattle.mx_asm.proofs.Apart.{none_apart, labels_apart}
use Rattle.mx_source.specs.SourceValue.{IsSource}
use Rattle.mx_lines.specs.declared.fault.Fault.{Fault}
use Rattle.mx_lines.specs.declared.fault.Fault.TheVariants.{BadDirective, TooManyInstructions, DataFull, LineTooLong, DuplicateLabel}
use Rattle.mx_asm.specs.declared.position.Position.{Position}
use Rattle.mx_lines.specs.Words.{Word, words_of}
use Rattle.mx_lines.specs.Instructions.{Labels}
use Rattle.mx_asm.specs.Directives.{Effect, effect_of}
use Rattle.mx_asm.specs.Effects.{EffectFits, first_input}
use Rattle.mx_lines.specs.Fitting.{LabelsFit}
use Rattle.mx_asm.specs.Positions.{has_dotted_label, labels_from, line_words, words_or_none, statement_words, after, start, position_at_end}
use Rattle.mx_asm.specs.Faults.{first_fault, first_repeat, line_fault, words_fault, least_fault, layout_fault, is_full, stands_past, is_line}
use Rattle.mx_asm.specs.Texts.{text_labels, text_effects, text_fault, source_of, effects_from, statements_in, lines_in, values_in, input_in, onto_statements, onto_lines, onto_values, onto_input}
use Rattle.mx_asm.proofs.LabelBounds.{found_none, labels_fit}
use Rattle.mx_asm.proofs.Listed.{Listed, this_fault, listed_next, listed_none}
use Rattle.mx_lines.proofs.Forms.{was_read}
use Rattle.mx_asm.proofs.Suits.{effect_fits}
use Rattle.mx_asm.proofs.Whole.{made}

-- a line without a fault has an effect, and there is room for what it adds
record ReadLine (labels : Labels) (end : ℕ) (p : Position) (words : List Word) : Type 0 where
  effect : Effect
  reads : effect_of labels p.section (statement_words words) ≡ Ok effect
  few : (after p words).index ≤ 20000
  within : (after p words).address ≤ end

room : (dotted many full long : Bool)
    → cond dotted (Some BadDirective) (cond many (Some TooManyInstructions) (cond full (Some DataFull) (cond long (Some LineTooLong) None))) ≡ None
    → (many ≡ false) × (full ≡ false)
room true many full long h = cc
room false true full long h = cc
room false false true long h = cc
room false false false long h = (refl, refl)

repeat_none : (b : Bool) (o : Option Fault) → cond b (Some DuplicateLabel) o ≡ None → o ≡ None
repeat_none true o h = cc
repeat_none false o h = h

or_first : (a b : Bool) → a || b ≡ false → a ≡ false
or_first true b h = cc
or_first false b h = refl

at_most : (a b : ℕ) → nat_lt a b ≡ false → b ≤ a
at_most a b h = grind (arith, nat_tests)

module _ (labels : Labels) (end : ℕ) (p : Position) (repeated : Bool) (long : ℕ) where
  by_effect : (words : List Word) (e : Result Effect Fault) → effect_of labels p.section (statement_words words) ≡ e
      → least_fault repeated e (layout_fault end p long words) ≡ None → ReadLine labels end p words
  by_effect words (Err fault) is h = cc
  by_effect words (Ok effect) is h =
      let free = room (has_dotted_label words) (nat_lt 20000 (after p words).index) (is_full end p words) (nat_lt 255 long)
      (repeat_none repeated (layout_fault end p long words) h) in
      record {
        effect = effect;
        reads = is;
        few = at_most 20000 (after p words).index free.0;
        within = at_most end (after p words).address (or_first (nat_lt end (after p words).address) (stands_past end p words) free.1);
      }

  read_line : (r : Result (List Word) Fault) → words_fault labels end p repeated long r ≡ None → ReadLine labels end p (words_or_none r)
  read_line (Err fault) h = cc
  read_line (Ok words) h = by_effect words (effect_of labels p.section (statement_words words)) refl h

-- what lines without faults do, from a position on, fits in a source
pub record LinesFit (labels : Labels) (end : ℕ) (from : Position) (all : List (List ℕ)) : Type 0 where
  pub count : from.index + length (statements_in (effects_from labels from 1 all)) ≡ (position_at_end from all).index
  pub each : length (lines_in (effects_from labels from 1 all)) ≡ length (statements_in (effects_from labels from 1 all))
  pub words : from.address + length (values_in (effects_from labels from 1 all)) ≡ (position_at_end from all).address
  pub few : (position_at_end from all).index ≤ 20000
  pub within : (position_at_end from all).address ≤ end
  pub statements_fit : (count : ℕ) → LabelsFit count labels → All (StatementFits (IsPlace labels count)) (statements_in (effects_from labels from 1 all))
  pub values_fit : (count : ℕ) → LabelsFit count labels → All (ValueFits (IsPlace labels count)) (values_in (effects_from labels from 1 all))

module _ (labels : Labels) (end : ℕ) (from : Position) (all : List (List ℕ)) (none : first_fault labels end from [] 1 all ≡ None) (most : end ≤ 65536) where
  abbrev repeated : Option ℕ
  repeated = first_repeat from [] 1 all

  abbrev ListedTo : List Statement → List ℕ → List Value → Option ℕ → Position → ℕ → List (List ℕ) → Type 0
  ListedTo = Listed labels end from all repeated

  -- what all lines add
  pub record AllListed : Type 0 where
    pub ss : List Statement
    pub ns : List ℕ
    pub vs : List Value
    pub input : Option ℕ
    pub p : Position
    pub number : ℕ
    pub listed : ListedTo ss ns vs input p number []

  all_listed : (rest : List (List ℕ)) (ss : List Statement) (ns : List ℕ) (vs : List Value) (input : Option ℕ) (p : Position) (number : ℕ)
      → ListedTo ss ns vs input p number rest → AllListed
  all_listed [] ss ns vs input p number h = record { ss = ss; ns = ns; vs = vs; input = input; p = p; number = number; listed = h }
  all_listed (line ∷ rest) ss ns vs input p number h =
      let here = found_none number (line_fault labels end p h.earlier line) _ (h.fault ∙ none) in
      let clear : words_fault labels end p (is_line repeated number) (length line) (words_of line) ≡ None = sym
      (this_fault labels end from all repeated ss ns vs input p number line rest h) ∙ here.0 in
      let read = read_line labels end p (is_line repeated number) (length line) (words_of line) clear in
      let words = statement_words (line_words line) in
      let fits = λ (count : ℕ) (fit : LabelsFit count labels). was_read (EffectFits labels count) (effect_of labels p.section words) read.effect
      (effect_fits labels count fit p.section words) read.reads in
      all_listed rest
      (ss ++ onto_statements read.effect []) (ns ++ onto_lines number read.effect []) (vs ++ onto_values read.effect [])
      (first_input input (onto_input number read.effect None)) (after p (line_words line)) (number + 1)
      (listed_next labels end from all repeated ss ns vs input p number line rest h read.effect clear read.reads read.few read.within most fits)

  pub whole : from.index ≤ 20000 → from.address ≤ end → AllListed
  whole room order = all_listed all [] [] [] None from 1 (listed_none labels end from all repeated refl room order)

  pub lines_fit : from.index ≤ 20000 → from.address ≤ end → LinesFit labels end from all
  lines_fit room order =
      let w = whole room order in
      let l = w.listed in
      let ss : w.ss ≡ statements_in (effects_from labels from 1 all) = sym (append-nil w.ss) ∙ l.statements in
      let ns : w.ns ≡ lines_in (effects_from labels from 1 all) = sym (append-nil w.ns) ∙ l.lines in
      let vs : w.vs ≡ values_in (effects_from labels from 1 all) = sym (append-nil w.vs) ∙ l.values in
      record {
        count = (let k = l.count in let n = ap length ss in let q = ap (λ (p : Position). p.index) l.last in omega (arith, k, n, q));
        each = sym (ap length ns) ∙ l.each ∙ ap length ss;
        words = (let k = l.words in let n = ap length vs in let q = ap (λ (p : Position). p.address) l.last in omega (arith, k, n, q));
        few = subst (λ (p : Position). p.index ≤ 20000) l.last l.few;
        within = subst (λ (p : Position). p.address ≤ end) l.last l.within;
        statements_fit = λ count fit. subst (All (StatementFits (IsPlace labels count))) ss (l.statements_fit count fit);
        values_fit = λ count fit. subst (All (ValueFits (IsPlace labels count))) vs (l.values_fit count fit);
      }

lines_make : (low end : ℕ) (all : List (List ℕ)) (labels : Labels) → labels ≡ labels_from (start low) [] all → 256 ≤ low → low ≤ end → end ≤ 65536
    → first_fault labels end (start low) [] 1 all ≡ None
    → (let effects = effects_from labels (start low) 1 all in IsSource
    (made (statements_in effects) (lines_in effects) (values_in effects) labels (input_in effects)))
lines_make low end all labels defined least order most none =
    let w = whole labels end (start low) all none most (omega arith) order in
    let l = w.listed in
    let effects = effects_from labels (start low) 1 all in
    let ended = labels_fit labels end all (start low) [] 1 most least none
    (All-nil (λ (p : List ℕ × Label). LabelFits (position_at_end (start low) all).index p.1)) in
    let count : length w.ss ≡ (position_at_end (start low) all).index =
    (let k = l.count in let m = ap (λ (q : Position). q.index) l.last in omega (arith, k, m)) in
    let fit : LabelsFit (length w.ss) labels = subst (λ n. LabelsFit n labels) (sym count)
    (subst (LabelsFit (position_at_end (start low) all).index) (sym defined) ended) in
    let ss = sym (append-nil w.ss) ∙ l.statements in
    let ns = sym (append-nil w.ns) ∙ l.lines in
    let vs = sym (append-nil w.vs) ∙ l.values in
    subst (λ x. IsSource (made x (lines_in effects) (values_in effects) labels (input_in effects))) ss
    (subst (λ x. IsSource (made w.ss x (values_in effects) labels (input_in effects))) ns
    (subst (λ x. IsSource (made w.ss w.ns x labels (input_in effects))) vs
    (record {
      few_statements = (let a = l.count in let b = l.few in omega (arith, a, b));
      few_words = (let a = l.words in let b = l.within in omega (arith, a, b));
      a_line_each = l.each;
      labels_fit = fit;
      statements_fit = l.statements_fit (length w.ss) fit;
      words_fit = l.values_fit (length w.ss) fit;
      distinct = subst AreApart (sym defined) (labels_apart all (start low) [] none_apart);
    })))

pub faultless_source : (low end : ℕ) (text : List ℕ) → 256 ≤ low → low ≤ end → end ≤ 65536 → text_fault low end text ≡ None → IsSource (source_of low text)
unfolding source_of text_fault text_labels text_effects
faultless_source low end text least order most none = lines_make low end (lines_of text) (text_labels low text) refl least order most none

-- its data words fit between the two addresses
pub faultless_words : (low end : ℕ) (text : List ℕ) → low ≤ end → end ≤ 65536 → text_fault low end text ≡ None
    → low + length (source_of low text).user_data ≤ end
unfolding source_of text_fault text_labels text_effects
faultless_words low end text order most none =
    let l = (whole (text_labels low text) end (start low) (lines_of text) none most (omega arith) order).listed in
    let words = l.words in
    let within = l.within in
    let values = ap length (sym (append-nil _) ∙ l.values) in
    omega (arith, words, within, values)
