-- Text that splits into words, at the end of a line.
use Rattle.std.proofs.Common.{◌≡◌, ℕ, zero, suc, ◌+◌, ◌-◌, ◌^◌, ◌≤◌, ◌<◌, Bool, true, false, cond, eqb, ◌&&◌, ◌||◌, List, [], ◌∷◌, ◌++◌, length, take, drop, get_or, Some, None, Result, Ok, Err, refl, sym, ap, ◌∙◌, arith, decimal, pos, negsuc, ℤ}
use Rattle.std.specs.Prelude.{not, nat_le, slice_index, slice_range, Option, min}
use Rattle.std.specs.List.{prefix_len, take_while, list_all}
use Rattle.std.specs.Char.{is_digit, digit_value}
use Rattle.std.specs.Str.Parse.{digits_value, AllDigits, IsNumeral}
use Rattle.std.proofs.lemmas.Bool.{lt-ltb}
use Rattle.std.proofs.lemmas.Bool.Decides.{nat_tests}
use Rattle.std.proofs.lemmas.List.{length-drop, get_or-drop, drop-drop, length-append}
use Rattle.std.proofs.lemmas.List.Folds.{list_all-append}
use Rattle.std.proofs.Math.Seq.{drop-append_seam, take-append_seam}
use Rattle.std.proofs.lemmas.Fmt.{decimal_is_IsNumeral}
use Rattle.mx_lex.specs.Bytes.{is_blank, is_allowed, begins_name, continues_name}
use Rattle.mx_lex.specs.Tokens.{token, tokens_of, tokens_within, digits_at, magnitude_at, number_at, number_token, token_from, next_token, mark_of, mark_or_number_at, is_end, and_then, before}
use Rattle.mx_lex.specs.declared.token.Token.{Token}
use Rattle.mx_lex.specs.declared.token.Kind.{Kind}
use Rattle.mx_lex.specs.declared.token.Kind.TheVariants as kinds
use Rattle.mx_lex.specs.declared.token.LexFault.{LexFault}
use Rattle.mx_lex.specs.declared.token.LexFault.TheVariants as faults
use Rattle.mx_lines.specs.Words.{Word, Name, Number, Comma, Open, Close, Hash, Colon, word_of, word_at, words_at, words_of, has_bad_byte}
use Rattle.mx_asm.specs.Printable.{is_name}
use Rattle.mx_isa.specs.Fields.{IsSignedField}
use Rattle.mx_isa.specs.Registers.{IsRegister}
use Rattle.mx_source.specs.Printed.{register}
use Rattle.std.specs.Fmt.{signed_decimal}
use Rattle.mx_lines.specs.declared.fault.Fault.TheVariants.{BadByte}
use Rattle.mx_lines.proofs.Clean.{is_clean, letter_is_clean, digit_is_clean, is_decimal_digit, goes_on_clean}

-- a line from which this text is left has these words left
pub record Splits (text : List ℕ) (words : List Word) : Type 0 where
  pub read : (line : List ℕ) (at most : ℕ) → drop at line ≡ text → length text < most → words_at line (tokens_within most line at) ≡ Ok words
  pub clean : list_all is_clean text ≡ true

clean_parts : (a c e : Bool) → (a && not c) ≡ true → (c ≡ false) × ((a || e) ≡ true)
clean_parts true true e h = cc
clean_parts true false e h = (refl, refl)
clean_parts false c e h = cc

-- what is left behind n more bytes
left_at : (line text : List ℕ) (at n : ℕ) → drop at line ≡ text → drop (at + n) line ≡ drop n text
left_at line text at n e = sym (drop-drop n at line) ∙ ap (drop n) e

byte_at : (line text : List ℕ) (at n : ℕ) → drop at line ≡ text → slice_index line (at + n) ≡ slice_index text n
byte_at line text at n e = sym (get_or-drop at line n 0) ∙ ap (λ t. get_or t n 0) e

byte_here : (line rest : List ℕ) (at b : ℕ) → drop at line ≡ b ∷ rest → slice_index line at ≡ b
byte_here line rest at b e = let z : at ≡ at + 0 = omega arith in ap (slice_index line) z ∙ byte_at line (b ∷ rest) at 0 e

is_inside : (line rest : List ℕ) (at b : ℕ) → drop at line ≡ b ∷ rest → nat_le (length line) at ≡ false
is_inside line rest at b e = let h : length line - at ≡ suc (length rest) = sym (length-drop at line) ∙ ap length e in grind (arith, nat_tests)

-- what begins at a place, from what is known of it
choose : List ℕ → ℕ → Bool → ℕ → List ℕ → Result Token LexFault
choose line at ended b left =
    cond (ended || eqb b 59) (Ok (token kinds.End at at))
    (cond (not (is_allowed b)) (Err (faults.BadByte at))
    (cond (begins_name b) (Ok (token kinds.Name at (at + prefix_len continues_name left))) (mark_or_number_at line at (mark_of b))))

from_choose : (line : List ℕ) (at : ℕ) → token_from line at ≡ choose line at (nat_le (length line) at) (slice_index line at) (drop at line)
unfolding token_from choose
from_choose line at = refl

choose_clean : (line left : List ℕ) (at b : ℕ) → is_clean b ≡ true
    → choose line at false b left ≡ cond (begins_name b) (Ok (token kinds.Name at (at + prefix_len continues_name left)))
    (mark_or_number_at line at (mark_of b))
unfolding choose
choose_clean line left at b h =
    let p = clean_parts (nat_le 32 b && nat_le b 126) (eqb b 59) (eqb b 9) h in
    let c = cond (begins_name b) (Ok (token kinds.Name at (at + prefix_len continues_name left))) (mark_or_number_at line at (mark_of b)) in
    ap (λ t. cond t (Ok (token kinds.End at at)) (cond (not (is_allowed b)) (Err (faults.BadByte at)) c)) p.0
    ∙ ap (λ t. cond (not t) (Err (faults.BadByte at)) c) p.1

-- the token that begins at a clean byte
from_clean : (line rest : List ℕ) (at b : ℕ) → drop at line ≡ b ∷ rest → is_clean b ≡ true
    → token_from line at ≡ cond (begins_name b) (Ok (token kinds.Name at (at + prefix_len continues_name (b ∷ rest)))) (mark_or_number_at line at (mark_of b))
from_clean line rest at b e h =
    from_choose line at
    ∙ ap (λ t. choose line at t (slice_index line at) (drop at line)) (is_inside line rest at b e)
    ∙ ap (λ t. choose line at false t (drop at line)) (byte_here line rest at b e)
    ∙ ap (choose line at false b) e
    ∙ choose_clean line (b ∷ rest) at b h

next_here : (line rest : List ℕ) (at b : ℕ) → drop at line ≡ b ∷ rest → is_blank b ≡ false → next_token line at ≡ token_from line at
unfolding next_token
next_here line rest at b e h =
    let n : prefix_len is_blank (drop at line) ≡ 0 = ap (prefix_len is_blank) e ∙ ap (λ t. cond t (1 + prefix_len is_blank rest) 0) h in
    let z : at + prefix_len is_blank (drop at line) ≡ at = omega arith in
    ap (token_from line) z

before_words : (line : List ℕ) (t : Token) (r : Result (List Token) LexFault) (w : Word) (words : List Word) → word_at line t ≡ w → words_at line r ≡ Ok words
    → words_at line (before t r) ≡ Ok (w ∷ words)
before_words line t (Ok ts) w words e h = cc
before_words line t (Err fault) w words e h = cc

-- one more token
one_more : (line : List ℕ) (at end most : ℕ) (k : Kind) (w : Word) (words : List Word) → next_token line at ≡ Ok (token k at end) → is_end k ≡ false
    → word_of k (slice_range line at end) ≡ w
    → words_at line (tokens_within most line end) ≡ Ok words → words_at line (tokens_within (suc most) line at) ≡ Ok (w ∷ words)
one_more line at end most k w words next goes says h =
    ap (λ r. words_at line (and_then r (λ t. cond (is_end t.kind) (Ok []) (before t (tokens_within most line t.end))))) next
    ∙ ap (λ b. words_at line (cond b (Ok []) (before (token k at end) (tokens_within most line end)))) goes
    ∙ before_words line (token k at end) (tokens_within most line end) w words says h

past_end : (line : List ℕ) (at : ℕ) → drop at line ≡ [] → nat_le (length line) at ≡ true
past_end line at e = let h : length line - at ≡ 0 = sym (length-drop at line) ∙ ap length e in grind (arith, nat_tests)

ended_here : (line : List ℕ) (at : ℕ) → drop at line ≡ [] → token_from line at ≡ Ok (token kinds.End at at)
unfolding choose
ended_here line at e = from_choose line at ∙ ap (λ t. choose line at t (slice_index line at) (drop at line)) (past_end line at e)

next_end : (line : List ℕ) (at : ℕ) → drop at line ≡ [] → next_token line at ≡ Ok (token kinds.End at at)
unfolding next_token
next_end line at e =
    let n : prefix_len is_blank (drop at line) ≡ 0 = ap (prefix_len is_blank) e in
    let z : at + prefix_len is_blank (drop at line) ≡ at = omega arith in
    ap (token_from line) z ∙ ended_here line at e

-- nothing is left
end_of : (line : List ℕ) (at most : ℕ) → drop at line ≡ [] → 0 < most → words_at line (tokens_within most line at) ≡ Ok []
end_of line at zero e lt = absurd (omega arith)
end_of line at (suc most) e lt = ap (λ r. words_at line (and_then r (λ t. cond (is_end t.kind) (Ok []) (before t (tokens_within most line t.end)))))
    (next_end line at e)

pub splits_end : Splits [] []
splits_end = record { read = end_of; clean = refl }

-- a mark is a clean byte that begins no name and no blank
pub record IsMark (b : ℕ) (k : Kind) (w : Word) : Type 0 where
  pub clean : is_clean b ≡ true
  pub blank : is_blank b ≡ false
  pub begins : begins_name b ≡ false
  pub mark : mark_of b ≡ Some k
  pub goes : is_end k ≡ false
  pub says : (bytes : List ℕ) → word_of k bytes ≡ w

pub is_comma : IsMark 44 kinds.Comma Comma
is_comma = record { clean = refl; blank = refl; begins = refl; mark = refl; goes = refl; says = λ bytes. refl }

pub is_open : IsMark 91 kinds.Open Open
is_open = record { clean = refl; blank = refl; begins = refl; mark = refl; goes = refl; says = λ bytes. refl }

pub is_close : IsMark 93 kinds.Close Close
is_close = record { clean = refl; blank = refl; begins = refl; mark = refl; goes = refl; says = λ bytes. refl }

pub is_hash : IsMark 35 kinds.Hash Hash
is_hash = record { clean = refl; blank = refl; begins = refl; mark = refl; goes = refl; says = λ bytes. refl }

pub is_colon : IsMark 58 kinds.Colon Colon
is_colon = record { clean = refl; blank = refl; begins = refl; mark = refl; goes = refl; says = λ bytes. refl }

module _ (b : ℕ) (k : Kind) (w : Word) (m : IsMark b k w) (rest : List ℕ) (words : List Word) (s : Splits rest words) where
  mark_read : (line : List ℕ) (at most : ℕ) → drop at line ≡ b ∷ rest → suc (length rest) < most → words_at line (tokens_within most line at) ≡ Ok (w ∷ words)
  mark_read line at zero e lt = absurd (omega arith)
  mark_read line at (suc most) e lt = one_more line at (at + 1) most k w words next m.goes (m.says (slice_range line at (at + 1)))
      (s.read line (at + 1) most (left_at line (b ∷ rest) at 1 e) (omega arith))
    where
      next : next_token line at ≡ Ok (token k at (at + 1))
      next =
          next_here line rest at b e m.blank
          ∙ from_clean line rest at b e m.clean
          ∙ ap (λ t. cond t (Ok (token kinds.Name at (at + prefix_len continues_name (b ∷ rest)))) (mark_or_number_at line at (mark_of b))) m.begins
          ∙ ap (mark_or_number_at line at) m.mark

  pub splits_mark : Splits (b ∷ rest) (w ∷ words)
  splits_mark = record { read = mark_read; clean = ap (λ t. t && list_all is_clean rest) m.clean ∙ s.clean }

-- a blank is passed over
next_blank : (line rest : List ℕ) (at : ℕ) → drop at line ≡ 32 ∷ rest → next_token line at ≡ next_token line (at + 1)
unfolding next_token
next_blank line rest at e =
    let n : prefix_len is_blank (drop at line) ≡ 1 + prefix_len is_blank rest = ap (prefix_len is_blank) e in
    let m : prefix_len is_blank (drop (at + 1) line) ≡ prefix_len is_blank rest = ap (prefix_len is_blank) (left_at line (32 ∷ rest) at 1 e) in
    let z : at + prefix_len is_blank (drop at line) ≡ (at + 1) + prefix_len is_blank (drop (at + 1) line) = omega arith in
    ap (token_from line) z

module _ (rest : List ℕ) (words : List Word) (s : Splits rest words) where
  blank_read : (line : List ℕ) (at most : ℕ) → drop at line ≡ 32 ∷ rest → suc (length rest) < most → words_at line (tokens_within most line at) ≡ Ok words
  blank_read line at zero e lt = absurd (omega arith)
  blank_read line at (suc most) e lt =
      ap (λ r. words_at line (and_then r (λ t. cond (is_end t.kind) (Ok []) (before t (tokens_within most line t.end))))) (next_blank line rest at e)
      ∙ s.read line (at + 1) (suc most) (left_at line (32 ∷ rest) at 1 e) (omega arith)

  pub splits_blank : Splits (32 ∷ rest) words
  splits_blank = record { read = blank_read; clean = s.clean }

pub and_both : (x y : Bool) → x && y ≡ true → (x ≡ true) × (y ≡ true)
and_both true y h = (refl, h)
and_both false y h = cc

pub or_none : (x y : Bool) → x || y ≡ false → (x ≡ false) × (y ≡ false)
or_none true y h = cc
or_none false y h = (refl, h)

-- bytes that pass, before one that does not
stops_at : (p : ℕ → Bool) (rest : List ℕ) → p (slice_index rest 0) ≡ false → prefix_len p rest ≡ 0
stops_at p [] h = refl
stops_at p (c ∷ cs) h = ap (λ t. cond t (1 + prefix_len p cs) 0) h

whole_front : (p : ℕ → Bool) (bytes rest : List ℕ) → list_all p bytes ≡ true → p (slice_index rest 0) ≡ false → prefix_len p (bytes ++ rest) ≡ length bytes
whole_front p [] rest all stops = stops_at p rest stops
whole_front p (b ∷ bytes) rest all stops =
    let both = and_both (p b) (list_all p bytes) all in
    let tail : prefix_len p (bytes ++ rest) ≡ length bytes = whole_front p bytes rest both.1 stops in
    ap (λ t. cond t (1 + prefix_len p (bytes ++ rest)) 0) both.0 ∙ omega arith

all_weaker : (p q : ℕ → Bool) → ((b : ℕ) → p b ≡ true → q b ≡ true) → (bytes : List ℕ) → list_all p bytes ≡ true → list_all q bytes ≡ true
all_weaker p q f [] h = refl
all_weaker p q f (b ∷ bytes) h =
    let both = and_both (p b) (list_all p bytes) h in
    ap (λ t. t && list_all q bytes) (f b both.0) ∙ all_weaker p q f bytes both.1

both_clean : (text rest : List ℕ) → list_all is_clean text ≡ true → list_all is_clean rest ≡ true → list_all is_clean (text ++ rest) ≡ true
both_clean text rest h k = list_all-append is_clean text rest ∙ ap (λ t. t && list_all is_clean rest) h ∙ k

pub name_is_clean : (n : List ℕ) → is_name n ≡ true → list_all is_clean n ≡ true
name_is_clean [] h = refl
name_is_clean (b ∷ bytes) h =
    let both = and_both (begins_name b) (list_all continues_name bytes) h in
    ap (λ t. t && list_all is_clean bytes) (letter_is_clean b both.0).0 ∙ all_weaker continues_name is_clean goes_on_clean bytes both.1

range_is : (line bytes rest : List ℕ) (at : ℕ) → drop at line ≡ bytes ++ rest → slice_range line at (at + length bytes) ≡ bytes
range_is line bytes rest at e =
    let n : (at + length bytes) - at ≡ length bytes = omega arith in
    ap (λ k. take k (drop at line)) n ∙ ap (take (length bytes)) e ∙ take-append_seam bytes rest

left_behind : (line bytes rest : List ℕ) (at : ℕ) → drop at line ≡ bytes ++ rest → drop (at + length bytes) line ≡ rest
left_behind line bytes rest at e = left_at line (bytes ++ rest) at (length bytes) e ∙ drop-append_seam bytes rest

module _ (b : ℕ) (bytes rest : List ℕ) (words : List Word) (h : is_name (b ∷ bytes) ≡ true) (stops : continues_name (slice_index rest 0) ≡ false)
    (s : Splits rest words) where
  abbrev name : List ℕ
  name = b ∷ bytes

  begins : begins_name b ≡ true
  begins = (and_both (begins_name b) (list_all continues_name bytes) h).0

  goes_on : list_all continues_name (b ∷ bytes) ≡ true
  goes_on = ap (λ t. (t || is_digit b 10) && list_all continues_name bytes) begins ∙ (and_both (begins_name b) (list_all continues_name bytes) h).1

  name_next : (line : List ℕ) (at : ℕ) → drop at line ≡ name ++ rest → next_token line at ≡ Ok (token kinds.Name at (at + length name))
  name_next line at e =
      let c = letter_is_clean b begins in
      next_here line (bytes ++ rest) at b e c.1
      ∙ from_clean line (bytes ++ rest) at b e c.0
      ∙ ap (λ t. cond t (Ok (token kinds.Name at (at + prefix_len continues_name (name ++ rest)))) (mark_or_number_at line at (mark_of b))) begins
      ∙ ap (λ n. Ok (token kinds.Name at (at + n))) (whole_front continues_name name rest goes_on stops)

  name_read : (line : List ℕ) (at most : ℕ) → drop at line ≡ name ++ rest → length (name ++ rest) < most
      → words_at line (tokens_within most line at) ≡ Ok (Name name ∷ words)
  name_read line at zero e lt = absurd (omega arith)
  name_read line at (suc most) e lt =
      let long : length (name ++ rest) ≡ suc (length bytes) + length rest = length-append name rest in
      one_more line at (at + length name) most kinds.Name (Name name) words (name_next line at e) refl (ap Name (range_is line name rest at e))
      (s.read line (at + length name) most (left_behind line name rest at e) (omega arith))

  splits_letters : Splits (name ++ rest) (Name name ∷ words)
  splits_letters = record { read = name_read; clean = both_clean name rest (name_is_clean name h) s.clean }

-- a name before what goes on with no byte of a name
pub splits_name : (n rest : List ℕ) (words : List Word) → is_name n ≡ true → continues_name (slice_index rest 0) ≡ false → Splits rest words
    → Splits (n ++ rest) (Name n ∷ words)
splits_name [] rest words h stops s = cc
splits_name (b ∷ bytes) rest words h stops s = splits_letters b bytes rest words h stops s

-- digits
abbrev ten : ℕ → Bool
ten b = is_digit b 10

digits_pass : (ds : List ℕ) → AllDigits 10 ds → list_all ten ds ≡ true
digits_pass [] h = refl
digits_pass (d ∷ ds) h = ap (λ t. t && list_all ten ds) (lt-ltb (digit_value d) 10 h.0) ∙ digits_pass ds h.1

no_prefix : (c : ℕ) → (eqb c 120 || eqb c 88) ≡ false → (b : Bool) → (b && (eqb c 120 || eqb c 88)) ≡ false
no_prefix c h true = h
no_prefix c h false = refl

not_x : (ds rest : List ℕ) → list_all ten ds ≡ true → continues_name (slice_index rest 0) ≡ false
    → (eqb (slice_index (ds ++ rest) 0) 120 || eqb (slice_index (ds ++ rest) 0) 88) ≡ false
not_x [] rest all stops = let c = slice_index rest 0 in not_name c (or_none (begins_name c) (ten c) stops).0
  where
    not_name : (c : ℕ) → begins_name c ≡ false → (eqb c 120 || eqb c 88) ≡ false
    not_name c h = grind (arith, nat_tests)
not_x (d ∷ ds) rest all stops = let r = is_decimal_digit d (and_both (ten d) (list_all ten ds) all).0 in plain d r.0 r.1
  where
    plain : (c : ℕ) → 48 ≤ c → c ≤ 57 → (eqb c 120 || eqb c 88) ≡ false
    plain c h k = grind (arith, nat_tests)

-- what the digits at a place say
say : ℕ → List ℕ → ℕ → Option (ℕ × ℕ)
say at digits b = cond (eqb (length digits) 0 || continues_name b) None (Some (at + length digits, min (digits_value 10 digits) (2 ^ 33)))

from_say : (line : List ℕ) (at : ℕ)
    → digits_at line 10 at ≡ say at (take_while ten (drop at line)) (slice_index line (at + length (take_while ten (drop at line))))
unfolding digits_at say
from_say line at = refl

some_length : (n : ℕ) → eqb (suc n) 0 ≡ false
some_length n = grind (arith, nat_tests)

say_some : (at d b : ℕ) (ds : List ℕ) → continues_name b ≡ false → digits_value 10 (d ∷ ds) < 2 ^ 33
    → say at (d ∷ ds) b ≡ Some (at + length (d ∷ ds), digits_value 10 (d ∷ ds))
unfolding say
say_some at d b ds stops small =
    let v = digits_value 10 (d ∷ ds) in
    let m : min v (2 ^ 33) ≡ v = omega arith in
    let found : Option (ℕ × ℕ) = Some (at + length (d ∷ ds), min v (2 ^ 33)) in
    ap (λ t. cond (t || continues_name b) None found) (some_length (length ds))
    ∙ ap (λ t. cond t None found) stops
    ∙ ap (λ n. Some (at + length (d ∷ ds), n)) m

module _ (d v : ℕ) (ds rest : List ℕ) (all : AllDigits 10 (d ∷ ds)) (value : digits_value 10 (d ∷ ds) ≡ v) (small : v < 2 ^ 33)
    (stops : continues_name (slice_index rest 0) ≡ false) (line : List ℕ) (at : ℕ) (e : drop at line ≡ (d ∷ ds) ++ rest) where
  abbrev digits : List ℕ
  digits = d ∷ ds

  passes : list_all ten digits ≡ true
  passes = digits_pass digits all

  is_first : (48 ≤ d) × (d ≤ 57)
  is_first = is_decimal_digit d (and_both (ten d) (list_all ten ds) passes).0

  taken : take_while ten (drop at line) ≡ digits
  taken =
      ap (take_while ten) e
      ∙ ap (λ n. take n (digits ++ rest)) (whole_front ten digits rest passes (or_none (begins_name (slice_index rest 0)) (ten (slice_index rest 0)) stops).1)
      ∙ take-append_seam digits rest

  behind : slice_index line (at + length digits) ≡ slice_index rest 0
  behind =
      let z : at + length digits ≡ (at + length digits) + 0 = omega arith in
      ap (slice_index line) z ∙ byte_at line rest (at + length digits) 0 (left_behind line digits rest at e)

  digits_found : digits_at line 10 at ≡ Some (at + length digits, v)
  digits_found =
      from_say line at
      ∙ ap (λ t. say at t (slice_index line (at + length t))) taken
      ∙ say_some at d (slice_index line (at + length digits)) ds (ap continues_name behind ∙ stops) (omega (arith, value, small))
      ∙ ap (λ n. Some (at + length digits, n)) value

  pub magnitude_found : magnitude_at line at ≡ Some (at + length digits, v)
  unfolding magnitude_at
  magnitude_found =
      let next : slice_index line (at + 1) ≡ slice_index (ds ++ rest) 0 = byte_at line (digits ++ rest) at 1 e in
      let plain : (eqb (slice_index line (at + 1)) 120 || eqb (slice_index line (at + 1)) 88) ≡ false = ap (λ c. eqb c 120 || eqb c 88) next
      ∙ not_x ds rest (and_both (ten d) (list_all ten ds) passes).1 stops in
      ap (λ t. cond t (digits_at line 16 (at + 2)) (digits_at line 10 at)) (no_prefix (slice_index line (at + 1)) plain (eqb (slice_index line at) 48))
      ∙ digits_found

digit_begins : (d : ℕ) → 48 ≤ d → d ≤ 57 → begins_name d ≡ false
digit_begins d h k = grind (arith, nat_tests)

digit_blank : (d : ℕ) → 48 ≤ d → d ≤ 57 → is_blank d ≡ false
digit_blank d h k = grind (arith, nat_tests)

digit_mark : (d : ℕ) → 48 ≤ d → d ≤ 57 → mark_of d ≡ None
digit_mark d h k = grind (arith, nat_tests)

digit_minus : (d : ℕ) → 48 ≤ d → d ≤ 57 → eqb d 45 ≡ false
digit_minus d h k = grind (arith, nat_tests)

-- a number that stands at a clean byte of no name and no mark
number_next : (line rest : List ℕ) (at b : ℕ) → drop at line ≡ b ∷ rest → is_clean b ≡ true → is_blank b ≡ false → begins_name b ≡ false → mark_of b ≡ None
    → next_token line at ≡ number_at line at
number_next line rest at b e clean blank begins mark =
    next_here line rest at b e blank
    ∙ from_clean line rest at b e clean
    ∙ ap (λ t. cond t (Ok (token kinds.Name at (at + prefix_len continues_name (b ∷ rest)))) (mark_or_number_at line at (mark_of b))) begins
    ∙ ap (mark_or_number_at line at) mark

number_plain : (line : List ℕ) (at b : ℕ) → slice_index line at ≡ b → eqb b 45 ≡ false → number_at line at ≡ number_token false at (magnitude_at line at)
unfolding number_at
number_plain line at b e h =
    ap (λ c. cond (eqb c 45) (number_token true at (magnitude_at line (at + 1))) (number_token false at (magnitude_at line at))) e
    ∙ ap (λ t. cond t (number_token true at (magnitude_at line (at + 1))) (number_token false at (magnitude_at line at))) h

number_minus : (line : List ℕ) (at : ℕ) → slice_index line at ≡ 45 → number_at line at ≡ number_token true at (magnitude_at line (at + 1))
unfolding number_at
number_minus line at e = ap (λ c. cond (eqb c 45) (number_token true at (magnitude_at line (at + 1))) (number_token false at (magnitude_at line at))) e

module _ (d v : ℕ) (ds rest : List ℕ) (words : List Word) (all : AllDigits 10 (d ∷ ds)) (value : digits_value 10 (d ∷ ds) ≡ v) (small : v < 2 ^ 33)
    (stops : continues_name (slice_index rest 0) ≡ false) (s : Splits rest words) where
  abbrev figures : List ℕ
  figures = d ∷ ds

  leads : (48 ≤ d) × (d ≤ 57)
  leads = is_decimal_digit d (lt-ltb (digit_value d) 10 all.0)

  figures_clean : list_all is_clean figures ≡ true
  figures_clean = all_weaker ten is_clean (λ b k. let r = is_decimal_digit b k in digit_is_clean b r.0 r.1) figures (digits_pass figures all)

  long : length (figures ++ rest) ≡ suc (length ds) + length rest
  long = length-append figures rest

  plain_read : (line : List ℕ) (at most : ℕ) → drop at line ≡ figures ++ rest → length (figures ++ rest) < most
      → words_at line (tokens_within most line at) ≡ Ok (Number false v ∷ words)
  plain_read line at zero e lt = absurd (omega arith)
  plain_read line at (suc most) e lt =
      one_more line at (at + length figures) most (kinds.Number false v) (Number false v) words
      (number_next line (ds ++ rest) at d e (digit_is_clean d leads.0 leads.1) (digit_blank d leads.0 leads.1) (digit_begins d leads.0 leads.1)
      (digit_mark d leads.0 leads.1)
      ∙ number_plain line at d (byte_here line (ds ++ rest) at d e) (digit_minus d leads.0 leads.1)
      ∙ ap (number_token false at) (magnitude_found d v ds rest all value small stops line at e))
      refl refl
      (s.read line (at + length figures) most (left_behind line figures rest at e) (omega (arith, long)))

  splits_plain : Splits (figures ++ rest) (Number false v ∷ words)
  splits_plain = record { read = plain_read; clean = both_clean figures rest figures_clean s.clean }

  minus_read : (line : List ℕ) (at most : ℕ) → drop at line ≡ 45 ∷ (figures ++ rest) → suc (length (figures ++ rest)) < most
      → words_at line (tokens_within most line at) ≡ Ok (Number true v ∷ words)
  minus_read line at zero e lt = absurd (omega arith)
  minus_read line at (suc most) e lt =
      let behind_minus = left_at line (45 ∷ (figures ++ rest)) at 1 e in
      one_more line at ((at + 1) + length figures) most (kinds.Number true v) (Number true v) words
      (number_next line (figures ++ rest) at 45 e refl refl refl refl
      ∙ number_minus line at (byte_here line (figures ++ rest) at 45 e)
      ∙ ap (number_token true at) (magnitude_found d v ds rest all value small stops line (at + 1) behind_minus))
      refl refl
      (s.read line ((at + 1) + length figures) most (left_behind line figures rest (at + 1) behind_minus) (omega (arith, long)))

  splits_negative : Splits (45 ∷ (figures ++ rest)) (Number true v ∷ words)
  splits_negative = record { read = minus_read; clean = both_clean figures rest figures_clean s.clean }

by_figures : (bytes rest : List ℕ) (v : ℕ) (words : List Word) → IsNumeral 10 bytes → digits_value 10 bytes ≡ v → v < 2 ^ 33
    → continues_name (slice_index rest 0) ≡ false → Splits rest words
    → Splits (bytes ++ rest) (Number false v ∷ words) × Splits (45 ∷ (bytes ++ rest)) (Number true v ∷ words)
by_figures [] rest v words n value small stops s = absurd (omega (arith, n.0))
by_figures (d ∷ ds) rest v words n value small stops s =
    (splits_plain d v ds rest words n.1 value small stops s, splits_negative d v ds rest words n.1 value small stops s)

pub splits_decimal : (v : ℕ) (rest : List ℕ) (words : List Word) → v < 2 ^ 33 → continues_name (slice_index rest 0) ≡ false → Splits rest words
    → Splits (decimal v ++ rest) (Number false v ∷ words)
splits_decimal v rest words small stops s = let n = decimal_is_IsNumeral v (omega arith) in (by_figures (decimal v) rest v words n.0 n.1 small stops s).0

abbrev pub is_negative : ℤ → Bool
is_negative (pos v) = false
is_negative (negsuc v) = true

abbrev pub size : ℤ → ℕ
size (pos v) = v
size (negsuc v) = suc v

pub splits_signed : (z : ℤ) (rest : List ℕ) (words : List Word) → IsSignedField 16 z → continues_name (slice_index rest 0) ≡ false → Splits rest words
    → Splits (signed_decimal z ++ rest) (Number (is_negative z) (size z) ∷ words)
splits_signed (pos v) rest words small stops s = splits_decimal v rest words (omega arith) stops s
splits_signed (negsuc v) rest words small stops s = let n = decimal_is_IsNumeral (suc v) (omega arith) in
    (by_figures (decimal (suc v)) rest (suc v) words n.0 n.1 (omega arith) stops s).1

-- a register's name
pub register_name : (r : ℕ) → IsRegister r → is_name (register r) ≡ true
register_name r h = let n = decimal_is_IsNumeral r (omega arith) in all_weaker ten continues_name digit_goes_on (decimal r) (digits_pass (decimal r) n.0.1)
  where
    digit_goes_on : (b : ℕ) → ten b ≡ true → continues_name b ≡ true
    digit_goes_on b k = either (begins_name b) (ten b) k
      where
        either : (x y : Bool) → y ≡ true → x || y ≡ true
        either true y k = refl
        either false y k = k

-- the words of a line that splits
pub words_are : (line : List ℕ) (words : List Word) → Splits line words → words_of line ≡ Ok words
unfolding words_of tokens_of
words_are line words s =
    ap (λ t. cond t (Err BadByte) (words_at line (tokens_within (length line + 1) line 0))) (no_bad line s.clean)
    ∙ s.read line 0 (length line + 1) refl (omega arith)
  where
    no_bad : (bytes : List ℕ) → list_all is_clean bytes ≡ true → has_bad_byte bytes ≡ false
    no_bad [] h = refl
    no_bad (b ∷ bytes) h =
        let both = and_both (is_clean b) (list_all is_clean bytes) h in
        let p = clean_parts (nat_le 32 b && nat_le b 126) (eqb b 59) (eqb b 9) both.0 in
        ap (λ t. cond t false (not (is_allowed b) || has_bad_byte bytes)) p.0 ∙ ap (λ t. not t || has_bad_byte bytes) p.1 ∙ no_bad bytes both.1
