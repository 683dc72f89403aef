-- The token that shows a fault, as the program looks for it.
use Rattle.std.proofs.Common.{◌≡◌, ℕ, suc, ◌+◌, ◌-◌, ◌≤◌, ◌<◌, ◌||◌, List, [], ◌∷◌, ◌++◌, length, take, drop, map, get_or, cond, Bool, true, false, Option, Some, None, Result, Ok, Err, refl, ap, sym, ◌∙◌, subst, arith}
use Rattle.std.proofs.Math.Path.{fun_ext}
use Rattle.std.specs.Prelude.{is_some, All, IfSome}
use Rattle.std.specs.Borrow.{Bor}
use Rattle.std.specs.Option.{option_or}
use Rattle.std.specs.List.{cons_option, list_any}
use Rattle.std.proofs.lemmas.Bool.{false≢true}
use Rattle.std.proofs.lemmas.List.{drop-map, take_rest, append-nil, take_more, get_or-map, length-map}
use Rattle.std.proofs.lemmas.List.Elements.{All-push, All-weaker}
use Rattle.mx_lex.specs.Lines.{lines_of}
use Rattle.mx_lex.specs.Tokens.{next_token, tokens_within, before, is_end}
use Rattle.mx_lex.specs.declared.token.LexFault.{LexFault}
use Rattle.mx_lex.specs.declared.token.Token.{Token}
use Rattle.mx_source.specs.declared.statement.Label.{Label}
use Rattle.mx_lines.specs.declared.word.Word.{Word as Lent}
use Rattle.mx_lines.specs.declared.fault.Fault.{Fault}
use Rattle.mx_asm.specs.declared.position.Position.{Position}
use Rattle.mx_lines.specs.Words.{Word, Name, Colon, texts}
use Rattle.mx_lines.specs.Shapes.{word}
use Rattle.mx_lines.specs.Instructions.{Labels}
use Rattle.mx_asm.specs.Positions.{begins_label, first_name, front_names, statement_words, define, is_defined, is_repeated, label_here, line_words, after, with_labels, start, position_at_end, labels_from}
use Rattle.mx_faults.specs.declared.line_fault.LineFault.{LineFault}
use Rattle.mx_faults.specs.declared.span.Span.{Span}
use Rattle.mx_faults.specs.Before.{defines, kind_in}
use Rattle.mx_faults.specs.Found.{HasSpan}
use Rattle.mx_faults.specs.Showing.{lex_fault_span, no_token, token_behind, first_known, span_by}
use Rattle.mx_faults.specs.Walking.{kind_by, repeat_place, earlier_place, IsShown, IsShownAs, with_span}
use Rattle.mx_faults.proofs.Walks.{known, known_defined, walk_kind, walk_known}
use Rattle.mx_faults.proofs.Texts.{position_more, labels_more}

some_or : (b : Bool) (place : ℕ) (o : Option ℕ) (c : Bool) → is_some o ≡ c → is_some (cond b (Some place) o) ≡ b || c
some_or true place o c h = refl
some_or false place o c h = h

-- a label is defined before where there is a place of one
pub repeats_somewhere : (labels : Labels) (l : Label) (place : ℕ) (words : List Word) → is_some (repeat_place labels l place words) ≡ is_repeated labels l words
repeats_somewhere labels l place (Name name ∷ Colon ∷ words) =
    some_or (is_defined labels name) place (repeat_place (define labels l name) l (place + 2) words) (is_repeated (define labels l name) l words)
    (repeats_somewhere (define labels l name) l (place + 2) words)
repeats_somewhere labels l place _ = refl

-- it is the first name that is known, or stands before
pub repeat_names : (labels : Labels) (l : Label) (place : ℕ) (words : List Word)
    → repeat_place labels l place words ≡ first_known (known labels) place (front_names words)
repeat_names labels l place (Name name ∷ Colon ∷ words) =
    ap (λ o. cond (is_defined labels name) (Some place) o)
    (repeat_names (define labels l name) l (place + 2) words
    ∙ ap (λ (q : List ℕ → Bool). first_known q (place + 2) (front_names words)) (fun_ext (known_defined labels l name)))
repeat_names labels l place _ = refl

or_earlier : (repeated : Option ℕ) (found : Bool) (place : ℕ) (o q : Option ℕ) → o ≡ q
    → option_or (earlier_place repeated found place) o ≡ option_or repeated (cond found (Some place) q)
or_earlier (Some x) found place o q h = refl
or_earlier None true place o q h = refl
or_earlier None false place o q h = h

place_next : (labels : Labels) (l : Label) (place : ℕ) (ws : List Word) → begins_label ws ≡ true
    → repeat_place labels l place ws ≡ cond (is_defined labels (first_name ws)) (Some place)
    (repeat_place (define labels l (first_name ws)) l (place + 2) (drop 2 ws))
place_next labels l place (Name name ∷ Colon ∷ ws) h = refl
place_next labels l place _ h = absurd (false≢true h)

-- one more label at the front
pub place_step : (labels labels' : Labels) (l : Label) (ws : List Lent) (name : List ℕ) (place : ℕ) (repeated : Option ℕ) (found : Bool) (all : Option ℕ)
    → begins_label (map word ws) ≡ true → name ≡ first_name (map word ws) → labels' ≡ define labels l name → found ≡ is_defined labels name
    → option_or repeated (repeat_place labels l place (map word ws)) ≡ all
    → option_or (earlier_place repeated found place) (repeat_place labels' l (place + 2) (map word (take (length ws - 2) (drop 2 ws)))) ≡ all
place_step labels labels' l ws name place repeated found all begins first ls fs whole =
    let left : take (length ws - 2) (drop 2 ws) ≡ drop 2 ws = take_rest ws 2 in
    let rest = ap (map word) left ∙ sym (drop-map word 2 ws) in
    let named = ls ∙ ap (define labels l) first in
    let is = fs ∙ ap (is_defined labels) first in
    or_earlier repeated found place _ _
    (ap (λ (k : Labels). repeat_place k l (place + 2) (map word (take (length ws - 2) (drop 2 ws)))) named
    ∙ ap (repeat_place (define labels l (first_name (map word ws))) l (place + 2)) rest)
    ∙ ap (λ b. option_or repeated (cond b (Some place) (repeat_place (define labels l (first_name (map word ws))) l (place + 2) (drop 2 (map word ws))))) is
    ∙ ap (option_or repeated) (sym (place_next labels l place (map word ws) begins))
    ∙ whole

-- the tokens that are passed over
next_behind : (k n : ℕ) (line : List ℕ) (at : ℕ) (t : Token) → n ≡ suc k → next_token line at ≡ Ok t → token_behind k line t.end ≡ token_behind n line at
next_behind k n line at t e is = rw e (rw is refl)

pub token_step : (n : ℕ) (line : List ℕ) (at : ℕ) (t : Token) → 0 < n → next_token line at ≡ Ok t → token_behind (n - 1) line t.end ≡ token_behind n line at
token_step n line at t more is = next_behind (n - 1) n line at t (omega arith) is

-- the statement's words are no more than the line's
pub statement_within : (words : List Word) → length (statement_words words) ≤ length words
statement_within (Name name ∷ Colon ∷ words) = let rest = statement_within words in omega (arith, rest)
statement_within _ = omega arith

-- a fault that is found at a place has its bytes
pub shown_there : (labels earlier : Labels) (low : ℕ) (lines : List (List ℕ)) (i number : ℕ) (line : List ℕ) (span : Option Span) (fault : Fault)
    → number ≡ i + 1
    → earlier ≡ labels_from (start low) [] (take i lines) → get_or lines i [] ≡ line
    → IsShownAs labels earlier (position_at_end (start low) (take i lines)) line span fault
    → IsShown labels low lines (record { line = number; fault = fault; span = span })
shown_there labels earlier low lines i number line span fault at before here h =
    let back : number - 1 ≡ i = omega (arith, at) in
    let there = subst (λ (e : Labels). IsShownAs labels e (position_at_end (start low) (take i lines)) line span fault) before h in
    let own = subst (λ (l : List ℕ). IsShownAs labels (labels_from (start low) [] (take i lines)) (position_at_end (start low) (take i lines)) l span fault)
    (sym here) there in
    subst (λ (k : ℕ). IsShownAs labels (labels_from (start low) [] (take k lines)) (position_at_end (start low) (take k lines)) (get_or lines k []) span fault)
    (sym back) own

-- by the lines of a text
pub span_is : (low end : ℕ) (text : List ℕ) (labels : Labels) (f : LineFault) → labels ≡ labels_from (start low) [] (lines_of text)
    → IsShown labels low (lines_of text) f → HasSpan low end text f
span_is low end text labels f defined h =
    let lines = lines_of text in
    let before = take (f.line - 1) lines in
    let line = get_or lines (f.line - 1) [] in
    let earlier = labels_from (start low) [] before in
    let p = position_at_end (start low) before in
    let again : repeat_place earlier (label_here p) 0 (line_words line)
    ≡ first_known (λ name. list_any (defines name) before) 0 (front_names (line_words line)) =
    repeat_names earlier (label_here p) 0 (line_words line)
    ∙ ap (λ (q : List ℕ → Bool). first_known q 0 (front_names (line_words line))) (fun_ext (λ name. walk_known before (start low) name)) in
    let kind : kind_by labels ≡ kind_in lines = ap kind_by defined ∙ fun_ext (λ name. walk_kind lines (start low) [] name) in
    h
    ∙ ap (λ o. span_by o (kind_by labels) line f.fault) again
    ∙ ap (λ k. span_by (first_known (λ name. list_any (defines name) before) 0 (front_names (line_words line))) k line f.fault) kind

pub spans_are : (low end : ℕ) (text : List ℕ) (labels : Labels) (lines : List (List ℕ)) (fs : List LineFault)
    → labels ≡ labels_from (start low) [] (lines_of text) → lines ≡ lines_of text
    → All (IsShown labels low lines) fs → All (HasSpan low end text) fs
spans_are low end text labels lines fs defined same h =
    All-weaker (IsShown labels low lines) (HasSpan low end text)
    (λ f is. span_is low end text labels f defined (subst (λ ls. IsShown labels low ls f) same is))
    fs h

-- what is found with one more line
pub push_shown : (P : LineFault → Type 0) (found found' : List LineFault) (line : ℕ) (span : Option Span) (fault : Option Fault)
    → found' ≡ found ++ cons_option (with_span line span fault) []
    → All P found → ((f : Fault) → fault ≡ Some f → P (record { line = line; fault = f; span = span })) → All P found'
push_shown P found found' line span None e h one = subst (All P) (sym (e ∙ append-nil found)) h
push_shown P found found' line span (Some f) e h one = subst (All P) (sym e) (All-push P found (record { line = line; fault = f; span = span }) h (one f refl))

-- the first place where no token begins
no_token_before : (line : List ℕ) (t : Token) (r : Result (List Token) LexFault) → no_token line (before t r) ≡ no_token line r
no_token_before line t (Ok ts) = refl
no_token_before line t (Err fault) = refl

within_step : (k n : ℕ) (line : List ℕ) (at : ℕ) (t : Token) → n ≡ suc k → next_token line at ≡ Ok t → is_end t.kind ≡ false
    → no_token line (tokens_within k line t.end) ≡ no_token line (tokens_within n line at)
within_step k n line at t e is goes = rw (e, is, goes) (sym (no_token_before line t (tokens_within k line t.end)))

pub fault_step : (n : ℕ) (line : List ℕ) (at : ℕ) (t : Token) → 0 < n → next_token line at ≡ Ok t → is_end t.kind ≡ false
    → no_token line (tokens_within (n - 1) line t.end) ≡ no_token line (tokens_within n line at)
fault_step n line at t more is goes = within_step (n - 1) n line at t (omega arith) is goes

within_end : (k n : ℕ) (line : List ℕ) (at : ℕ) (t : Token) → n ≡ suc k → next_token line at ≡ Ok t → is_end t.kind ≡ true
    → no_token line (tokens_within n line at) ≡ None
within_end k n line at t e is ends = rw (e, is, ends) refl

pub fault_end : (n : ℕ) (line : List ℕ) (at : ℕ) (t : Token) → 0 < n → next_token line at ≡ Ok t → is_end t.kind ≡ true
    → no_token line (tokens_within n line at) ≡ None
fault_end n line at t more is ends = within_end (n - 1) n line at t (omega arith) is ends

within_fault : (k n : ℕ) (line : List ℕ) (at : ℕ) (fault : LexFault) → n ≡ suc k → next_token line at ≡ Err fault
    → no_token line (tokens_within n line at) ≡ lex_fault_span line fault
within_fault k n line at fault e is = rw (e, is) refl

pub fault_here : (n : ℕ) (line : List ℕ) (at : ℕ) (fault : LexFault) → 0 < n → next_token line at ≡ Err fault
    → no_token line (tokens_within n line at) ≡ lex_fault_span line fault
fault_here n line at fault more is = within_fault (n - 1) n line at fault (omega arith) is

-- the first lines of a text and one more
pub one_more_text : (lines : List (Bor (List ℕ))) (i : ℕ) (d : Bor (List ℕ)) → i < length lines
    → take (i + 1) (texts lines) ≡ take i (texts lines) ++ (get_or lines i d).now ∷ []
one_more_text lines i d lt =
    take_more (texts lines) i d.now (omega (arith, length-map lines (λ (line : Bor (List ℕ)). line.now)))
    ∙ ap (λ x. take i (texts lines) ++ x ∷ []) (get_or-map (λ (line : Bor (List ℕ)). line.now) lines i d d.now lt)

pub text_at : (lines : List (Bor (List ℕ))) (i : ℕ) (d : Bor (List ℕ)) → i < length lines → get_or (texts lines) i [] ≡ (get_or lines i d).now
text_at lines i d lt = get_or-map (λ (line : Bor (List ℕ)). line.now) lines i d [] lt

-- what stands behind one more line
pub before_more : (low i : ℕ) (lines : List (List ℕ)) (line : List ℕ) (p next : Position) → take (i + 1) lines ≡ take i lines ++ line ∷ []
    → p ≡ position_at_end (start low) (take i lines)
    → next ≡ after p (line_words line) → next ≡ position_at_end (start low) (take (i + 1) lines)
before_more low i lines line p next more before e =
    e ∙ ap (λ (q : Position). after q (line_words line)) before ∙ sym (position_more (take i lines) line (start low))
    ∙ ap (position_at_end (start low)) (sym more)

pub earlier_more : (low i : ℕ) (lines : List (List ℕ)) (line : List ℕ) (p : Position) (earlier next : Labels) → take (i + 1) lines ≡ take i lines ++ line ∷ []
    → p ≡ position_at_end (start low) (take i lines)
    → earlier ≡ labels_from (start low) [] (take i lines) → next ≡ with_labels p earlier (line_words line)
    → next ≡ labels_from (start low) [] (take (i + 1) lines)
earlier_more low i lines line p earlier next more before known e =
    e
    ∙ ap (λ (q : Position). with_labels q earlier (line_words line)) before
    ∙ ap (λ (k : Labels). with_labels (position_at_end (start low) (take i lines)) k (line_words line)) known
    ∙ sym (labels_more (take i lines) line (start low) [])
    ∙ ap (labels_from (start low) []) (sym more)

-- the place of a label that is defined before, by what the program was told
pub is_again : (earlier : Labels) (l l' : Label) (words words' : List Word) (found : Option ℕ) → found ≡ repeat_place earlier l 0 words → l ≡ l'
    → words ≡ words'
    → (found ≡ repeat_place earlier l' 0 words') × (is_some found ≡ is_repeated earlier l' words')
is_again earlier l l' words words' found e same kept =
    let all = e ∙ ap (λ q. repeat_place earlier q 0 words) same ∙ ap (repeat_place earlier l' 0) kept in
    (all, ap is_some all ∙ repeats_somewhere earlier l' 0 words')

-- what was seen of a line, as the lines before it have it
pub shown_here : (labels earlier : Labels) (low : ℕ) (lines : List (List ℕ)) (i number : ℕ) (line : List ℕ) (p : Position) (span : Option Span)
    (o : Option Fault)
    → number ≡ i + 1
    → p ≡ position_at_end (start low) (take i lines) → earlier ≡ labels_from (start low) [] (take i lines) → get_or lines i [] ≡ line
    → IfSome o (IsShownAs labels earlier p line span)
    → (fault : Fault) → o ≡ Some fault → IsShown labels low lines (record { line = number; fault = fault; span = span })
shown_here labels earlier low lines i number line p span o at stands before here h fault e =
    shown_there labels earlier low lines i number line span fault at before here
    (subst (λ (q : Position). IsShownAs labels earlier q line span fault) stands
    (subst (λ (r : Option Fault). IfSome r (IsShownAs labels earlier p line span)) e h))
