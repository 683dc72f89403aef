-- The code of a translation is read line by line.
use Rattle.std.proofs.Common.{◌≡◌, ℕ, ◌+◌, ◌≤◌, Bool, cond, List, [], ◌∷◌, ◌++◌, length, Option, Some, None, Result, Ok, Err, inl, inr, refl, sym, ap, ◌∙◌, subst, arith, append_assoc}
use Rattle.std.specs.Prelude.{All, count_by, codes}
use Rattle.std.proofs.lemmas.List.Elements.{All-head, All-tail}
use Rattle.std.proofs.lemmas.List.Sums.{sum_by-cons}
use Rattle.mx_lex.specs.Lines.{lines_of}
use Rattle.mx_source.specs.declared.statement.Label.{Label}
use Rattle.mx_source.specs.declared.statement.Label.TheVariants as label
use Rattle.mx_source.specs.declared.statement.Statement.{Statement}
use Rattle.mx_source.specs.declared.statement.Value.{Value}
use Rattle.mx_source.specs.SourceValue.{SourceValue}
use Rattle.mx_lines.specs.declared.fault.Fault.{Fault}
use Rattle.mx_lines.specs.declared.labels.TheConstants.{PAST_END}
use Rattle.mx_lines.specs.Instructions.{Labels}
use Rattle.mx_lines.specs.Words.{Word, Name, Number, Comma, Open, Close, Hash, Colon, End, words_of}
use Rattle.mx_asm.specs.declared.position.Position.{Position}
use Rattle.mx_asm.specs.Directives.{Effect, Nothing, Instruction, effect_of}
use Rattle.mx_asm.specs.Positions.{front_names, statement_words, line_words, words_or_none, define, define_front, with_labels, labels_from, after}
use Rattle.mx_asm.specs.Faults.{found_or, first_fault, line_fault, least_fault, words_fault, layout_fault, repeats}
use Rattle.mx_asm.specs.Texts.{ReadsAs as TextReadsAs, effects_from, or_nothing, onto_statements, onto_values, onto_input, statements_in, values_in, input_in, source_of, text_effects, text_labels, text_fault}
use Rattle.cc_program.specs.declared.program.Program.{Program}
use Rattle.cc_emit.specs.declared.line.Line.{Line}
use Rattle.cc_emit.specs.Lines.{is_statement, line_text, lines_text}
use Rattle.cc_emit.specs.Sources.{title, code_text}
use Rattle.law_emit.specs.Reading.{Reads, LineFits, line_names, line_statement, statement_count, effect_from, code_at}
use Rattle.law_emit.specs.Lines.{define_all, code_labels, before, resolve, IsSourceOf}
use Rattle.law_emit.proofs.Comments.{comment_reads}
use Rattle.law_emit.proofs.Statements.{line_reads}

-- the index of the statement after lines
abbrev pub index_after : ℕ → List Line → ℕ
index_after index [] = index
index_after index (line ∷ lines) = index_after (index + statement_count line) lines

counted : (index : ℕ) (lines : List Line) → index_after index lines ≡ index + count_by is_statement lines
counted index [] = omega arith
counted index (line ∷ lines) =
    let more = sum_by-cons (λ l. cond (is_statement l) 1 0) line lines in
    omega (arith, counted (index + statement_count line) lines, more)

pub counts : (lines : List Line) → index_after 0 lines ≡ count_by is_statement lines
counts lines = counted 0 lines ∙ omega arith

-- the labels at the front of a line, by their names
pub define_names : (labels : Labels) (l : Label) (words : List Word) → define_front labels l words ≡ define_all labels l (front_names words)
define_names labels l [] = refl
define_names labels l (Name n ∷ []) = refl
define_names labels l (Name n ∷ Colon ∷ ws) = define_names (define labels l n) l ws
define_names labels l (Name n ∷ Name m ∷ ws) = refl
define_names labels l (Name n ∷ Number s v ∷ ws) = refl
define_names labels l (Name n ∷ Comma ∷ ws) = refl
define_names labels l (Name n ∷ Open ∷ ws) = refl
define_names labels l (Name n ∷ Close ∷ ws) = refl
define_names labels l (Name n ∷ Hash ∷ ws) = refl
define_names labels l (Name n ∷ End ∷ ws) = refl
define_names labels l (Number s v ∷ ws) = refl
define_names labels l (Comma ∷ ws) = refl
define_names labels l (Open ∷ ws) = refl
define_names labels l (Close ∷ ws) = refl
define_names labels l (Hash ∷ ws) = refl
define_names labels l (Colon ∷ ws) = refl
define_names labels l (End ∷ ws) = refl

-- the labels of one text
pub labels_step : (K : Labels) (text : List ℕ) (names : List (List ℕ)) (count : ℕ) (said : Option (Result Statement Fault)) → Reads K text names count said
    → (index address : ℕ) → address ≤ PAST_END → (earlier : Labels) (rest : List ℕ)
    → labels_from (code_at index address) earlier (lines_of (text ++ rest))
    ≡ labels_from (code_at (index + count) address) (define_all earlier (label.Code index) names) (lines_of rest)
labels_step K text names count said (inl s) index address near earlier rest =
    let same : index ≡ index + 0 = omega arith in
    ap (λ t. labels_from (code_at index address) earlier (lines_of (t ++ rest))) s.untold
    ∙ ap (λ n. labels_from (code_at n address) earlier (lines_of rest)) same
    ∙ ap (λ n. labels_from (code_at (index + n) address) earlier (lines_of rest)) (sym s.uncounted)
    ∙ ap (λ ns. labels_from (code_at (index + count) address) (define_all earlier (label.Code index) ns) (lines_of rest)) (sym s.unlabelled)
labels_step K text names count said (inr r) index address near earlier rest =
    ap (labels_from (code_at index address) earlier) (r.alone rest)
    ∙ ap (λ p. labels_from p (with_labels (code_at index address) earlier (line_words r.line)) (lines_of rest)) (r.next index address near)
    ∙ ap (λ ls. labels_from (code_at (index + count) address) ls (lines_of rest))
    (define_names earlier (label.Code index) (line_words r.line) ∙ ap (define_all earlier (label.Code index)) r.labelled)

-- the labels of lines
pub lines_labels : (p : Program) (lines : List Line) → All (LineFits p) lines → (index address : ℕ) → address ≤ PAST_END → (earlier : Labels) (rest : List ℕ)
    → labels_from (code_at index address) earlier (lines_of (lines_text p lines ++ rest))
    ≡ labels_from (code_at (index_after index lines) address) (code_labels p index earlier lines) (lines_of rest)
lines_labels p [] fits index address near earlier rest = refl
lines_labels p (line ∷ lines) fits index address near earlier rest =
    ap (λ t. labels_from (code_at index address) earlier (lines_of t)) (append_assoc (line_text p line) (lines_text p lines) rest)
    ∙ labels_step [] (line_text p line) (line_names p line) (statement_count line) (line_statement [] p line)
    (line_reads p line (All-head (LineFits p) line lines fits) []) index address near earlier (lines_text p lines ++ rest)
    ∙ lines_labels p lines (All-tail (LineFits p) line lines fits) (index + statement_count line) address near
    (define_all earlier (label.Code index) (line_names p line)) rest

-- what lines add, up to others of which none has a fault
record Goes (K : Labels) (end : ℕ) (from : Position) (number : ℕ) (all : List (List ℕ)) (own : List Statement) (to : Position)
    (rest : List (List ℕ)) : Type 0 where
  earlier : Labels
  later : ℕ
  faultless : first_fault K end to earlier later rest ≡ None
  statements : statements_in (effects_from K from number all) ≡ own ++ statements_in (effects_from K to later rest)
  values : values_in (effects_from K from number all) ≡ values_in (effects_from K to later rest)
  input : input_in (effects_from K from number all) ≡ input_in (effects_from K to later rest)

stays : (K : Labels) (end : ℕ) (from : Position) (earlier : Labels) (number : ℕ) (rest : List (List ℕ)) → first_fault K end from earlier number rest ≡ None
    → Goes K end from number rest [] from rest
stays K end from earlier number rest h = record {
  earlier = earlier;
  later = number;
  faultless = h;
  statements = refl;
  values = refl;
  input = refl;
}

joined : (K : Labels) (end : ℕ) (from between to : Position) (number : ℕ) (all some rest : List (List ℕ)) (own more : List Statement)
    → (g : Goes K end from number all own between some) → Goes K end between g.later some more to rest → Goes K end from number all (own ++ more) to rest
joined K end from between to number all some rest own more g h = record {
  earlier = h.earlier;
  later = h.later;
  faultless = h.faultless;
  statements = g.statements ∙ ap (λ ss. own ++ ss) h.statements ∙ sym (append_assoc own more (statements_in (effects_from K to h.later rest)));
  values = g.values ∙ h.values;
  input = g.input ∙ h.input;
}

-- no line has a fault
pub found_both : (n : ℕ) (here : Option Fault) (later : Option (ℕ × Fault)) → found_or n here later ≡ None → (here ≡ None) × (later ≡ None)
found_both n (Some fault) later h = cc
found_both n None later h = (refl, h)

pub sound_line : (K : Labels) (end : ℕ) (from : Position) (earlier : Labels) (number : ℕ) (line : List ℕ) (all lines : List (List ℕ)) → all ≡ line ∷ lines
    → first_fault K end from earlier number all ≡ None → (line_fault K end from earlier line ≡ None)
    × (first_fault K end (after from (line_words line)) (with_labels from earlier (line_words line)) (number + 1) lines ≡ None)
sound_line K end from earlier number line all lines cut h =
    found_both number (line_fault K end from earlier line)
    (first_fault K end (after from (line_words line)) (with_labels from earlier (line_words line)) (number + 1) lines)
    (ap (first_fault K end from earlier number) (sym cut) ∙ h)

least_ok : (repeated : Bool) (r : Result Effect Fault) (o : Option Fault) → least_fault repeated r o ≡ None → (e : Effect) × (r ≡ Ok e)
least_ok repeated (Ok e) o h = (e, refl)
least_ok repeated (Err fault) o h = cc

words_ok : (K : Labels) (end : ℕ) (p : Position) (repeated : Bool) (long : ℕ) (r : Result (List Word) Fault) → words_fault K end p repeated long r ≡ None
    → (e : Effect) × (effect_of K p.section (statement_words (words_or_none r)) ≡ Ok e)
words_ok K end p repeated long (Err fault) h = cc
words_ok K end p repeated long (Ok words) h = least_ok repeated (effect_of K p.section (statement_words words)) (layout_fault end p long words) h

-- the statement that a line without a fault is
abbrev read : Option Statement → Option (Result Statement Fault)
read None = None
read (Some s) = Some (Ok s)

abbrev does : Option Statement → Effect
does None = Nothing
does (Some s) = Instruction s

abbrev alone_in : Option Statement → List Statement
alone_in None = []
alone_in (Some s) = s ∷ []

said_ok : (said : Option (Result Statement Fault)) (e : Effect) → effect_from said ≡ Ok e → (found : Option Statement) × (said ≡ read found) × (e ≡ does found)
said_ok None e h = let same : Nothing ≡ e = cc in (None, refl, sym same)
said_ok (Some (Ok s)) e h = let same : Instruction s ≡ e = cc in (Some s, refl, sym same)
said_ok (Some (Err fault)) e h = cc

onto_own : (o : Option Statement) (ss : List Statement) → onto_statements (does o) ss ≡ alone_in o ++ ss
onto_own None ss = refl
onto_own (Some s) ss = refl

no_values : (o : Option Statement) (vs : List Value) → onto_values (does o) vs ≡ vs
no_values None vs = refl
no_values (Some s) vs = refl

no_input : (n : ℕ) (o : Option Statement) (i : Option ℕ) → onto_input n (does o) i ≡ i
no_input n None i = refl
no_input n (Some s) i = refl

-- what one line adds
line_goes : (K : Labels) (end : ℕ) (from to : Position) (earlier : Labels) (number : ℕ) (line : List ℕ) (all lines : List (List ℕ)) (o : Option Statement)
    → all ≡ line ∷ lines → effect_of K from.section (statement_words (line_words line)) ≡ Ok (does o) → after from (line_words line) ≡ to
    → first_fault K end (after from (line_words line)) earlier (number + 1) lines ≡ None → Goes K end from number all (alone_in o) to lines
line_goes K end from to earlier number line all lines o cut read next h = record {
  earlier = earlier;
  later = number + 1;
  faultless = ap (λ q. first_fault K end q earlier (number + 1) lines) (sym next) ∙ h;
  statements = ap statements_in effects ∙ onto_own o (statements_in (effects_from K to (number + 1) lines));
  values = ap values_in effects ∙ no_values o (values_in (effects_from K to (number + 1) lines));
  input = ap input_in effects ∙ no_input number o (input_in (effects_from K to (number + 1) lines));
}
  where
    effects : effects_from K from number all ≡ (number, does o) ∷ effects_from K to (number + 1) lines
    effects =
        ap (effects_from K from number) cut
        ∙ ap (λ x. (number, or_nothing x) ∷ effects_from K (after from (line_words line)) (number + 1) lines) read
        ∙ ap (λ q. (number, does o) ∷ effects_from K q (number + 1) lines) next

record Steps (K : Labels) (end index address number : ℕ) (text : List ℕ) (count : ℕ) (said : Option (Result Statement Fault)) (rest : List ℕ) : Type 0 where
  found : Option Statement
  is : said ≡ read found
  goes : Goes K end (code_at index address) number (lines_of (text ++ rest)) (alone_in found) (code_at (index + count) address) (lines_of rest)

module _ (K : Labels) (end index address : ℕ) (near : address ≤ PAST_END) (earlier : Labels) (number : ℕ) (rest : List ℕ) where
  abbrev here : Position
  here = code_at index address

  silent_goes : first_fault K end here earlier number (lines_of rest) ≡ None
      → Goes K end here number (lines_of rest) [] (code_at (index + 0) address) (lines_of rest)
  silent_goes h =
      let same : index ≡ index + 0 = omega arith in
      subst (λ n. Goes K end here number (lines_of rest) [] (code_at n address) (lines_of rest)) same (stays K end here earlier number (lines_of rest) h)

  step : (text : List ℕ) (names : List (List ℕ)) (count : ℕ) (said : Option (Result Statement Fault)) → Reads K text names count said
      → first_fault K end here earlier number (lines_of (text ++ rest)) ≡ None → Steps K end index address number text count said rest
  step text names count said (inl s) h =
      let bare = ap (λ t. first_fault K end here earlier number (lines_of (t ++ rest))) (sym s.untold) ∙ h in
      record {
        found = None;
        is = s.unsaid;
        goes =
            subst (λ t. Goes K end here number (lines_of (t ++ rest)) [] (code_at (index + count) address) (lines_of rest)) (sym s.untold)
            (subst (λ n. Goes K end here number (lines_of rest) [] (code_at (index + n) address) (lines_of rest)) (sym s.uncounted) (silent_goes bare));
      }
  step text names count said (inr r) h =
      let words = line_words r.line in
      let cut = r.alone rest in
      let both = sound_line K end here earlier number r.line (lines_of (text ++ rest)) (lines_of rest) cut h in
      let ok = words_ok K end here (repeats here earlier words) (length r.line) (words_of r.line) both.0 in
      let found = said_ok said ok.0 (sym r.effect ∙ ok.1) in
      record {
        found = found.0;
        is = found.1;
        goes = line_goes K end here (code_at (index + count) address) (with_labels here earlier words) number r.line (lines_of (text ++ rest)) (lines_of rest)
            found.0 cut (ok.1 ∙ ap Ok found.2) (r.next index address near) both.1;
      }

-- all lines
record Resolves (K : Labels) (end : ℕ) (p : Program) (lines : List Line) (index address number : ℕ) (rest : List ℕ) : Type 0 where
  own : List Statement
  resolved : resolve K p lines ≡ Ok own
  goes : Goes K end (code_at index address) number (lines_of (lines_text p lines ++ rest)) own (code_at (index_after index lines) address) (lines_of rest)

before_read : (said : Option (Result Statement Fault)) (found : Option Statement) (all : Result (List Statement) Fault) (own : List Statement)
    → said ≡ read found → all ≡ Ok own → before said all ≡ Ok (alone_in found ++ own)
before_read said found all own h k = ap (λ o. before o all) h ∙ ap (before (read found)) k ∙ by_found found
  where
    by_found : (o : Option Statement) → before (read o) (Ok own) ≡ Ok (alone_in o ++ own)
    by_found None = refl
    by_found (Some s) = refl

lines_go : (K : Labels) (end : ℕ) (p : Program) (lines : List Line) → All (LineFits p) lines → (index address : ℕ) → address ≤ PAST_END
    → (earlier : Labels) (number : ℕ) (rest : List ℕ) → first_fault K end (code_at index address) earlier number (lines_of (lines_text p lines ++ rest)) ≡ None
    → Resolves K end p lines index address number rest
lines_go K end p [] fits index address near earlier number rest h = record {
  own = [];
  resolved = refl;
  goes = stays K end (code_at index address) earlier number (lines_of rest) h;
}
lines_go K end p (line ∷ lines) fits index address near earlier number rest h =
    let flat = append_assoc (line_text p line) (lines_text p lines) rest in
    let more = lines_text p lines ++ rest in
    let one = step K end index address near earlier number more (line_text p line) (line_names p line) (statement_count line) (line_statement K p line)
    (line_reads p line (All-head (LineFits p) line lines fits) K)
    (ap (λ t. first_fault K end (code_at index address) earlier number (lines_of t)) (sym flat) ∙ h) in
    let others = lines_go K end p lines (All-tail (LineFits p) line lines fits) (index + statement_count line) address near one.goes.earlier one.goes.later rest
    one.goes.faultless in
    let to = code_at (index_after (index + statement_count line) lines) address in
    let own = alone_in one.found ++ others.own in
    record {
      own = own;
      resolved = before_read (line_statement K p line) one.found (resolve K p lines) others.own one.is others.resolved;
      goes =
          subst (λ t. Goes K end (code_at index address) number (lines_of t) own to (lines_of rest)) (sym flat)
          (joined K end (code_at index address) (code_at (index + statement_count line) address) to number (lines_of (line_text p line ++ more)) (lines_of more)
          (lines_of rest) (alone_in one.found) others.own one.goes others.goes);
    }

none_own : (o : Option Statement) → None ≡ read o → alone_in o ≡ []
none_own None h = refl
none_own (Some s) h = cc

pub title_reads : (K : Labels) → Reads K title [] 0 None
title_reads K = inr (comment_reads K (codes " translated from assembly for MIPS-I") refl)

-- the whole code
pub text_labels_are : (p : Program) (lines : List Line) → All (LineFits p) lines → (address : ℕ) → address ≤ PAST_END → (rest : List ℕ)
    → labels_from (code_at 0 address) [] (lines_of (code_text p lines ++ rest))
    ≡ labels_from (code_at (index_after 0 lines) address) (code_labels p 0 [] lines) (lines_of rest)
text_labels_are p lines fits address near rest =
    ap (λ t. labels_from (code_at 0 address) [] (lines_of t)) (append_assoc title (lines_text p lines) rest)
    ∙ labels_step [] title [] 0 None (title_reads []) 0 address near [] (lines_text p lines ++ rest)
    ∙ lines_labels p lines fits 0 address near [] rest

record Codes (K : Labels) (end : ℕ) (p : Program) (lines : List Line) (address : ℕ) (rest : List ℕ) : Type 0 where
  own : List Statement
  resolved : resolve K p lines ≡ Ok own
  goes : Goes K end (code_at 0 address) 1 (lines_of (code_text p lines ++ rest)) own (code_at (index_after 0 lines) address) (lines_of rest)

code_goes : (K : Labels) (end : ℕ) (p : Program) (lines : List Line) → All (LineFits p) lines → (address : ℕ) → address ≤ PAST_END → (rest : List ℕ)
    → first_fault K end (code_at 0 address) [] 1 (lines_of (code_text p lines ++ rest)) ≡ None → Codes K end p lines address rest
code_goes K end p lines fits address near rest h =
    let from = code_at 0 address in
    let to = code_at (index_after 0 lines) address in
    let more = lines_text p lines ++ rest in
    let flat = append_assoc title (lines_text p lines) rest in
    let one = step K end 0 address near [] 1 more title [] 0 None (title_reads K)
    (ap (λ t. first_fault K end from [] 1 (lines_of t)) (sym flat) ∙ h) in
    let all = lines_go K end p lines fits 0 address near one.goes.earlier one.goes.later rest one.goes.faultless in
    record {
      own = all.own;
      resolved = all.resolved;
      goes =
          subst (λ t. Goes K end from 1 (lines_of t) all.own to (lines_of rest)) (sym flat)
          (subst (λ ss. Goes K end from 1 (lines_of (title ++ more)) (ss ++ all.own) to (lines_of rest)) (none_own one.found one.is)
          (joined K end from from to 1 (lines_of (title ++ more)) (lines_of more) (lines_of rest) (alone_in one.found) all.own one.goes all.goes));
    }

pub code_read : (p : Program) (lines : List Line) → All (LineFits p) lines → (address end : ℕ) → address ≤ PAST_END → (rest : List ℕ) → (source : SourceValue)
    → TextReadsAs address end (code_text p lines ++ rest) source → IsSourceOf p lines address rest source
unfolding text_fault source_of text_effects text_labels
code_read p lines fits address end near rest source h =
    let K : Labels = labels_from (code_at 0 address) [] (lines_of (code_text p lines ++ rest)) in
    let all = code_goes K end p lines fits address near rest h.faultless in
    subst (IsSourceOf p lines address rest) (sym h.same) (record {
      labels = text_labels_are p lines fits address near rest
          ∙ ap (λ n. labels_from (code_at n address) (code_labels p 0 [] lines) (lines_of rest)) (counts lines);
      own = all.own;
      resolved = all.resolved;
      number = all.goes.later;
      effects = effects_from K (code_at (index_after 0 lines) address) all.goes.later (lines_of rest);
      follow = ap (λ n. effects_from K (code_at n address) all.goes.later (lines_of rest)) (counts lines);
      statements = all.goes.statements;
      user_data = all.goes.values;
      input = all.goes.input;
    })
