-- The loop over the lines of a text that makes its listing.
use Rattle.std.proofs.Common.{◌≡◌, ℕ, ◌+◌, ◌≤◌, ◌<◌, List, [], ◌∷◌, ◌++◌, length, cond, eqb, Bool, true, false, Option, Some, None, Ok, refl, ap, sym, ◌∙◌, subst, append_assoc, length-append, arith}
use Rattle.std.specs.Prelude.{All}
use Rattle.std.proofs.lemmas.Bool.Decides.{nat_tests}
use Rattle.std.proofs.lemmas.List.{append-nil}
use Rattle.std.proofs.lemmas.List.Elements.{All-append, All-nil, All-cons}
use Rattle.mx_source.specs.declared.statement.Statement.{Statement}
use Rattle.mx_source.specs.declared.statement.Value.{Value}
use Rattle.mx_source.specs.Labels.{IsPlace}
use Rattle.mx_source.specs.Statements.{StatementFits, ValueFits}
use Rattle.mx_lines.specs.declared.fault.Fault.{Fault}
use Rattle.mx_asm.specs.declared.position.Position.{Position}
use Rattle.mx_lines.specs.Words.{Word, words_of}
use Rattle.mx_lines.specs.Instructions.{Labels}
use Rattle.mx_lines.specs.Fitting.{LabelsFit}
use Rattle.mx_asm.specs.Directives.{Effect, Nothing, Instruction, Data, Input, effect_of}
use Rattle.mx_asm.specs.Effects.{EffectFits, first_input, IsFaultOf}
use Rattle.mx_asm.specs.Listings.{IsListingOf, IsRefusal, refusal}
use Rattle.mx_asm.specs.declared.assembler.Reading.{Reading}
use Rattle.mx_asm.specs.Readings.{Reads, Refuses}
use Rattle.mx_lines.specs.declared.fault.AsmError.{AsmError}
use Rattle.mx_lines.specs.declared.fault.LineError.{LineError}
use Rattle.mx_lines.specs.declared.fault.LineError.TheVariants as errors
use Rattle.mx_asm.specs.Positions.{line_words, statement_words, after, behind, with_labels, position_at_end, instruction_count, word_count}
use Rattle.mx_asm.specs.Faults.{first_fault, found_or, line_fault, words_fault, first_repeat, repeats, is_line}
use Rattle.mx_asm.specs.Texts.{effects_from, statements_in, lines_in, values_in, input_in, onto_statements, onto_lines, onto_values, onto_input, or_nothing}
use Rattle.mx_asm.proofs.Counts.{effect_counts}
use Rattle.mx_asm.proofs.LabelBounds.{not_repeated}

-- what was listed so far, and what the rest of the lines adds to it, is what all lines add
pub record Listed (labels : Labels) (end : ℕ) (from : Position) (all : List (List ℕ)) (repeated : Option ℕ) (ss : List Statement) (ns : List ℕ)
    (vs : List Value) (input : Option ℕ) (p : Position) (number : ℕ) (rest : List (List ℕ)) : Type 0 where
  pub earlier : Labels
  pub fault : first_fault labels end p earlier number rest ≡ first_fault labels end from [] 1 all
  pub repeat : first_repeat p earlier number rest ≡ repeated
  pub statements : ss ++ statements_in (effects_from labels p number rest) ≡ statements_in (effects_from labels from 1 all)
  pub lines : ns ++ lines_in (effects_from labels p number rest) ≡ lines_in (effects_from labels from 1 all)
  pub values : vs ++ values_in (effects_from labels p number rest) ≡ values_in (effects_from labels from 1 all)
  pub inputs : first_input input (input_in (effects_from labels p number rest)) ≡ input_in (effects_from labels from 1 all)
  pub last : position_at_end p rest ≡ position_at_end from all
  pub count : from.index + length ss ≡ p.index
  pub each : length ns ≡ length ss
  pub words : from.address + length vs ≡ p.address
  pub few : p.index ≤ 20000
  pub within : p.address ≤ end
  pub statements_fit : (count : ℕ) → LabelsFit count labels → All (StatementFits (IsPlace labels count)) ss
  pub values_fit : (count : ℕ) → LabelsFit count labels → All (ValueFits (IsPlace labels count)) vs

later_cond : (b : Bool) (number n : ℕ) (later : Option ℕ) → n < number → is_line later n ≡ false → is_line (cond b (Some number) later) n ≡ false
later_cond true number n later lt h = grind (arith, nat_tests)
later_cond false number n later lt h = h

-- a line that is found from a number on has no smaller number
later_line : (lines : List (List ℕ)) (p : Position) (earlier : Labels) (number n : ℕ) → n < number → is_line (first_repeat p earlier number lines) n ≡ false
later_line [] p earlier number n lt = refl
later_line (line ∷ lines) p earlier number n lt =
    later_cond (repeats p earlier (line_words line)) number n
    (first_repeat (after p (line_words line)) (with_labels p earlier (line_words line)) (number + 1) lines) lt
    (later_line lines (after p (line_words line)) (with_labels p earlier (line_words line)) (number + 1) n (omega arith))

same_line : (n : ℕ) → eqb n n ≡ true
same_line n = grind (arith, nat_tests)

flag_cond : (b : Bool) (number : ℕ) (later : Option ℕ) → is_line later number ≡ false → is_line (cond b (Some number) later) number ≡ b
flag_cond true number later h = same_line number
flag_cond false number later h = h

-- the first line that defines a label again is this one exactly where this one does
flag : (line : List ℕ) (lines : List (List ℕ)) (p : Position) (earlier : Labels) (number : ℕ)
    → is_line (first_repeat p earlier number (line ∷ lines)) number ≡ repeats p earlier (line_words line)
flag line lines p earlier number =
    flag_cond (repeats p earlier (line_words line)) number
    (first_repeat (after p (line_words line)) (with_labels p earlier (line_words line)) (number + 1) lines)
    (later_line lines (after p (line_words line)) (with_labels p earlier (line_words line)) (number + 1) number (omega arith))

-- what a line does goes behind what was listed
put_statements : (ss : List Statement) (e : Effect) (rest : List Statement) → (ss ++ onto_statements e []) ++ rest ≡ ss ++ onto_statements e rest
put_statements ss Nothing rest = ap (λ x. x ++ rest) (append-nil ss)
put_statements ss (Instruction s) rest = append_assoc ss (s ∷ []) rest
put_statements ss (Data vs) rest = ap (λ x. x ++ rest) (append-nil ss)
put_statements ss Input rest = ap (λ x. x ++ rest) (append-nil ss)

put_lines : (ns : List ℕ) (n : ℕ) (e : Effect) (rest : List ℕ) → (ns ++ onto_lines n e []) ++ rest ≡ ns ++ onto_lines n e rest
put_lines ns n Nothing rest = ap (λ x. x ++ rest) (append-nil ns)
put_lines ns n (Instruction s) rest = append_assoc ns (n ∷ []) rest
put_lines ns n (Data vs) rest = ap (λ x. x ++ rest) (append-nil ns)
put_lines ns n Input rest = ap (λ x. x ++ rest) (append-nil ns)

put_values : (vs : List Value) (e : Effect) (rest : List Value) → (vs ++ onto_values e []) ++ rest ≡ vs ++ onto_values e rest
put_values vs Nothing rest = ap (λ x. x ++ rest) (append-nil vs)
put_values vs (Instruction s) rest = ap (λ x. x ++ rest) (append-nil vs)
put_values vs (Data more) rest = ap (λ x. (vs ++ x) ++ rest) (append-nil more) ∙ append_assoc vs more rest
put_values vs Input rest = ap (λ x. x ++ rest) (append-nil vs)

put_input : (input : Option ℕ) (n : ℕ) (e : Effect) (rest : Option ℕ)
    → first_input (first_input input (onto_input n e None)) rest ≡ first_input input (onto_input n e rest)
put_input (Some line) n e rest = refl
put_input None n Nothing rest = refl
put_input None n (Instruction s) rest = refl
put_input None n (Data vs) rest = refl
put_input None n Input rest = refl

each_more : (n : ℕ) (e : Effect) → length (onto_lines n e []) ≡ length (onto_statements e [])
each_more n Nothing = refl
each_more n (Instruction s) = refl
each_more n (Data vs) = refl
each_more n Input = refl

statements_fit_more : (labels : Labels) (count : ℕ) (e : Effect) → EffectFits labels count e → All (StatementFits (IsPlace labels count)) (onto_statements e [])
statements_fit_more labels count Nothing h = All-nil (StatementFits (IsPlace labels count))
statements_fit_more labels count (Instruction s) h = All-cons (StatementFits (IsPlace labels count)) s [] h (All-nil (StatementFits (IsPlace labels count)))
statements_fit_more labels count (Data vs) h = All-nil (StatementFits (IsPlace labels count))
statements_fit_more labels count Input h = All-nil (StatementFits (IsPlace labels count))

values_fit_more : (labels : Labels) (count : ℕ) (e : Effect) → EffectFits labels count e → All (ValueFits (IsPlace labels count)) (onto_values e [])
values_fit_more labels count Nothing h = All-nil (ValueFits (IsPlace labels count))
values_fit_more labels count (Instruction s) h = All-nil (ValueFits (IsPlace labels count))
values_fit_more labels count (Data vs) h = All-append (ValueFits (IsPlace labels count)) vs [] h (All-nil (ValueFits (IsPlace labels count)))
values_fit_more labels count Input h = All-nil (ValueFits (IsPlace labels count))

index_after : (p : Position) (ws : List Word) → (after p ws).index ≡ p.index + instruction_count (statement_words ws)
unfolding behind
index_after p ws = refl

address_after : (p : Position) (ws : List Word) → (after p ws).address ≤ 65536 → (after p ws).address ≡ p.address + word_count (statement_words ws)
unfolding behind
address_after p ws h = omega (arith, h)

module _ (labels : Labels) (end : ℕ) (from : Position) (all : List (List ℕ)) (repeated : Option ℕ) (ss : List Statement) (ns : List ℕ) (vs : List Value)
    (input : Option ℕ) (p : Position) (number : ℕ) (line : List ℕ) (rest : List (List ℕ))
    (h : Listed labels end from all repeated ss ns vs input p number (line ∷ rest)) where
  -- the fault of this line, as the program finds it
  pub this_fault : line_fault labels end p h.earlier line ≡ words_fault labels end p (is_line repeated number) (length line) (words_of line)
  this_fault = ap (λ b. words_fault labels end p b (length line) (words_of line))
      (sym (flag line rest p h.earlier number) ∙ ap (λ r. is_line r number) h.repeat)

  -- a fault of this line is the first
  pub refused : (fault : Fault) → words_fault labels end p (is_line repeated number) (length line) (words_of line) ≡ Some fault
      → first_fault labels end from [] 1 all ≡ Some (number, fault)
  refused fault found =
      sym h.fault
      ∙ ap (λ f. found_or number f (first_fault labels end (after p (line_words line)) (with_labels p h.earlier (line_words line)) (number + 1) rest))
      (this_fault ∙ found)

  -- one line more
  pub listed_next : (e : Effect) → words_fault labels end p (is_line repeated number) (length line) (words_of line) ≡ None
      → effect_of labels p.section (statement_words (line_words line)) ≡ Ok e
      → (after p (line_words line)).index ≤ 20000 → (after p (line_words line)).address ≤ end → end ≤ 65536
      → ((count : ℕ) → LabelsFit count labels → EffectFits labels count e)
      → Listed labels end from all repeated (ss ++ onto_statements e []) (ns ++ onto_lines number e []) (vs ++ onto_values e [])
      (first_input input (onto_input number e None)) (after p (line_words line)) (number + 1) rest
  listed_next e none effect few within le fits =
      let ws = line_words line in
      let does = ap or_nothing effect in
      let later = effects_from labels (after p ws) (number + 1) rest in
      let counts = effect_counts labels p.section (statement_words ws) e effect in
      let again = sym (flag line rest p h.earlier number) in
      record {
        earlier = with_labels p h.earlier ws;
        fault = ap (λ f. found_or number f (first_fault labels end (after p ws) (with_labels p h.earlier ws) (number + 1) rest)) (sym (this_fault ∙ none))
            ∙ h.fault;
        repeat =
            let fresh = again ∙ ap (λ r. is_line r number) h.repeat ∙ not_repeated labels end p (is_line repeated number) (length line) (words_of line) none in
            ap (λ b. cond b (Some number) (first_repeat (after p ws) (with_labels p h.earlier ws) (number + 1) rest)) (sym fresh) ∙ h.repeat;
        statements = put_statements ss e (statements_in later) ∙ ap (λ x. ss ++ onto_statements x (statements_in later)) (sym does) ∙ h.statements;
        lines = put_lines ns number e (lines_in later) ∙ ap (λ x. ns ++ onto_lines number x (lines_in later)) (sym does) ∙ h.lines;
        values = put_values vs e (values_in later) ∙ ap (λ x. vs ++ onto_values x (values_in later)) (sym does) ∙ h.values;
        inputs = put_input input number e (input_in later) ∙ ap (λ x. first_input input (onto_input number x (input_in later))) (sym does) ∙ h.inputs;
        last = h.last;
        count = omega (arith, length-append ss (onto_statements e []), counts.statements, index_after p ws, h.count);
        each = omega (arith, length-append ss (onto_statements e []), length-append ns (onto_lines number e []), each_more number e, h.each);
        words = omega (arith, length-append vs (onto_values e []), counts.words, address_after p ws (omega (arith, within, le)), h.words);
        few = few;
        within = within;
        statements_fit = λ count fit. All-append (StatementFits (IsPlace labels count)) ss (onto_statements e []) (h.statements_fit count fit)
            (statements_fit_more labels count e (fits count fit));
        values_fit = λ count fit. All-append (ValueFits (IsPlace labels count)) vs (onto_values e []) (h.values_fit count fit)
            (values_fit_more labels count e (fits count fit));
      }

-- the same of what the program has read
pub record IsRead (labels : Labels) (end : ℕ) (from : Position) (all : List (List ℕ)) (repeated : Option ℕ) (r : Reading) (rest : List (List ℕ)) : Type 0 where
  pub listed : Listed labels end from all repeated r.listing.statements.items r.listing.lines.items r.listing.user_data.items r.listing.input
      r.position r.number rest

module _ {labels : Labels} {end : ℕ} {from : Position} {all : List (List ℕ)} {repeated : Option ℕ} {r : Reading} where
  pub read_more : {r' : Reading} {line : List ℕ} {rest : List (List ℕ)} → IsRead labels end from all repeated r (line ∷ rest)
      → Reads labels end repeated line r r' → end ≤ 65536 → IsRead labels end from all repeated r' rest
  read_more {r'} {line} {rest} h e le =
      let l = r.listing in
      let next = listed_next labels end from all repeated l.statements.items l.lines.items l.user_data.items l.input r.position r.number line rest h.listed
      e.does e.faultless e.effect
      (subst (λ (q : Position). q.index ≤ 20000) e.position e.few) (subst (λ (q : Position). q.address ≤ end) e.position e.within) le e.fits in
      record { listed = rw (e.adds.statements, e.adds.lines, e.adds.user_data, e.adds.input, e.position, e.number) next }

  -- the error at the next line refuses the text
  pub read_refused : {line : List ℕ} {rest : List (List ℕ)} (error : AsmError) → IsRead labels end from all repeated r (line ∷ rest)
      → Refuses labels end repeated line r error → IsRefusal (first_fault labels end from [] 1 all) error
  read_refused {line} {rest} error h refuses =
      let l = r.listing in
      refuses (first_fault labels end from [] 1 all)
      (refused labels end from all repeated l.statements.items l.lines.items l.user_data.items l.input r.position r.number line rest h.listed)

pub refusal_is : (found : Option (ℕ × Fault)) (here : Option Fault) (number : ℕ) (e : LineError)
    → ((fault : Fault) → here ≡ Some fault → found ≡ Some (number, fault)) → IsFaultOf here e → IsRefusal found (refusal number e)
refusal_is found here number errors.Memory h k = tt
refusal_is found here number (errors.Fault fault) h k = h fault k

pub listed_none : (labels : Labels) (end : ℕ) (from : Position) (all : List (List ℕ)) (repeated : Option ℕ) → first_repeat from [] 1 all ≡ repeated
    → from.index ≤ 20000 → from.address ≤ end
    → Listed labels end from all repeated [] [] [] None from 1 all
listed_none labels end from all repeated h room le = record {
  earlier = [];
  fault = refl;
  repeat = h;
  statements = refl;
  lines = refl;
  values = refl;
  inputs = refl;
  last = refl;
  count = omega arith;
  each = refl;
  words = omega arith;
  few = room;
  within = le;
  statements_fit = λ count fit. All-nil (StatementFits (IsPlace labels count));
  values_fit = λ count fit. All-nil (ValueFits (IsPlace labels count));
}

no_later_input : (input : Option ℕ) → first_input input None ≡ input
no_later_input (Some line) = refl
no_later_input None = refl

-- a listing to which no line is left to add is that of all lines
pub all_read : {labels : Labels} {end : ℕ} {from : Position} {all : List (List ℕ)} {repeated : Option ℕ} {r : Reading}
    → IsRead labels end from all repeated r [] → IsListingOf labels end from all r.listing
all_read {labels} {end} {from} {all} {repeated} {r} is_read =
    let l = r.listing in
    let h = is_read.listed in
    record {
      faultless = sym h.fault;
      statements = sym (append-nil l.statements.items) ∙ h.statements;
      lines = sym (append-nil l.lines.items) ∙ h.lines;
      user_data = sym (append-nil l.user_data.items) ∙ h.values;
      input = sym (no_later_input l.input) ∙ h.inputs;
      count = h.count ∙ ap (λ (q : Position). q.index) h.last;
      each = h.each;
      words = h.words ∙ ap (λ (q : Position). q.address) h.last;
      few = subst (λ (q : Position). q.index ≤ 20000) h.last h.few;
      within = subst (λ (q : Position). q.address ≤ end) h.last h.within;
      statements_fit = h.statements_fit;
      values_fit = h.values_fit;
    }
