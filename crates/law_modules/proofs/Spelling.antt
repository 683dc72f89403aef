-- The names among the words of a line are names of the language.
use Rattle.std.proofs.Common.{◌≡◌, ℕ, zero, suc, ◌+◌, ◌-◌, ◌<◌, Bool, true, false, cond, eqb, ◌&&◌, ◌||◌, List, [], ◌∷◌, length, take, drop, Option, Some, None, Result, Ok, Err, refl, ap, ◌∙◌, arith}
use Rattle.std.specs.Prelude.{All, IfOk, IfSome, nat_le, not, slice_index, slice_range}
use Rattle.std.specs.List.{list_all, prefix_len}
use Rattle.std.specs.Char.{is_digit}
use Rattle.std.proofs.lemmas.Bool.Decides.{nat_tests}
use Rattle.std.proofs.lemmas.List.{at_drop_more}
use Rattle.std.proofs.lemmas.List.Elements.{All-nil, All-cons, All-map}
use Rattle.mx_lex.specs.Bytes.{is_blank, is_allowed, begins_name, continues_name}
use Rattle.mx_lex.specs.declared.Kind.{Kind}
use Rattle.mx_lex.specs.declared.Kind.TheVariants as kinds
use Rattle.mx_lex.specs.declared.Token.{Token}
use Rattle.mx_lex.specs.declared.LexFault.{LexFault}
use Rattle.mx_lex.specs.Tokens.{token, mark_of, mark_or_number_at, number_token, number_at, magnitude_at, ends_at, token_from, next_token, is_end, before, and_then, tokens_within, tokens_of}
use Rattle.mx_lines.specs.declared.Fault.{Fault}
use Rattle.mx_lines.specs.Words.{Word, Name, Number, Comma, Open, Close, Hash, Colon, End, word_at, has_bad_byte, words_at, words_of}
use Rattle.mx_asm.specs.Positions.{words_or_none, line_words}
use Rattle.mx_asm.specs.Printable.{is_name}
use Rattle.mx_asm.proofs.Spelled.{or_none}

-- a name among words is one of the language
abbrev pub IsSpelled : Word → Type 0
IsSpelled (Name bytes) = is_name bytes ≡ true
IsSpelled _ = Unit {0}

front_passes : (p : ℕ → Bool) (xs : List ℕ) → list_all p (take (prefix_len p xs) xs) ≡ true
front_passes p [] = refl
front_passes p (x ∷ xs) = by (p x) refl (front_passes p xs)
  where
    by : (b : Bool) → p x ≡ b → list_all p (take (prefix_len p xs) xs) ≡ true → list_all p (take (cond b (1 + prefix_len p xs) 0) (x ∷ xs)) ≡ true
    by true e rest =
        let n : 1 + prefix_len p xs ≡ suc (prefix_len p xs) = omega arith in
        ap (λ k. list_all p (take k (x ∷ xs))) n ∙ ap (λ t. t && list_all p (take (prefix_len p xs) xs)) e ∙ rest
    by false e rest = refl

front_is_name : (b : ℕ) (rest : List ℕ) → begins_name b ≡ true → is_name (take (prefix_len continues_name (b ∷ rest)) (b ∷ rest)) ≡ true
front_is_name b rest h =
    let goes : continues_name b ≡ true = ap (λ t. t || is_digit b 10) h in
    let n : prefix_len continues_name (b ∷ rest) ≡ suc (prefix_len continues_name rest) =
    ap (λ t. cond t (1 + prefix_len continues_name rest) 0) goes ∙ omega arith in
    ap (λ k. is_name (take k (b ∷ rest))) n ∙ ap (λ t. t && list_all continues_name (take (prefix_len continues_name rest) rest)) h
    ∙ front_passes continues_name rest

name_at : (line : List ℕ) (at : ℕ) → at < length line → begins_name (slice_index line at) ≡ true
    → is_name (slice_range line at (at + prefix_len continues_name (drop at line))) ≡ true
name_at line at lt h =
    let n = prefix_len continues_name (drop at line) in
    let k : (at + n) - at ≡ n = omega arith in
    ap (λ k. is_name (take k (drop at line))) k
    ∙ at_drop_more (λ xs. is_name (take (prefix_len continues_name xs) xs)) line at 0 lt
    ∙ front_is_name (slice_index line at) (drop (at + 1) line) h

either_ok : {A E : Type 0} (P : A → Type 0) (b : Bool) (r s : Result A E) → (b ≡ true → IfOk r P) → (b ≡ false → IfOk s P) → IfOk (cond b r s) P
either_ok P true r s h k = h refl
either_ok P false r s h k = k refl

either_some : (P : Kind → Type 0) (b : Bool) (o q : Option Kind) → IfSome o P → IfSome q P → IfSome (cond b o q) P
either_some P true o q h k = h
either_some P false o q h k = k

-- a kind of token that is no name
abbrev IsMark : Kind → Type 0
IsMark kinds.Name = ⊥
IsMark _ = Unit {0}

marks : (b : ℕ) → IfSome (mark_of b) IsMark
marks b =
    either_some IsMark (eqb b 44) (Some kinds.Comma) _ tt
    (either_some IsMark (eqb b 91) (Some kinds.Open) _ tt
    (either_some IsMark (eqb b 93) (Some kinds.Close) _ tt
    (either_some IsMark (eqb b 35) (Some kinds.Hash) _ tt
    (either_some IsMark (eqb b 58) (Some kinds.Colon) None tt tt))))

module _ (line : List ℕ) where
  abbrev Says : Token → Type 0
  Says t = IsSpelled (word_at line t)

  mark_says : (kind : Kind) (start end : ℕ) → IsMark kind → Says (token kind start end)
  mark_says kinds.Name start end h = absurd h
  mark_says (kinds.Number negative value) start end h = tt
  mark_says kinds.Comma start end h = tt
  mark_says kinds.Open start end h = tt
  mark_says kinds.Close start end h = tt
  mark_says kinds.Hash start end h = tt
  mark_says kinds.Colon start end h = tt
  mark_says kinds.End start end h = tt

  token_says : (negative : Bool) (at : ℕ) (o : Option (ℕ × ℕ)) → IfOk (number_token negative at o) Says
  token_says negative at None = tt
  token_says negative at (Some found) = tt

  number_says : (at : ℕ) → IfOk (number_at line at) Says
  unfolding number_at
  number_says at =
      either_ok Says (eqb (slice_index line at) 45) (number_token true at (magnitude_at line (at + 1))) (number_token false at (magnitude_at line at))
      (λ e. token_says true at (magnitude_at line (at + 1))) (λ e. token_says false at (magnitude_at line at))

  other_says : (at : ℕ) (o : Option Kind) → IfSome o IsMark → IfOk (mark_or_number_at line at o) Says
  other_says at (Some kind) h = mark_says kind at (at + 1) h
  other_says at None h = number_says at

  from_says : (at : ℕ) → IfOk (token_from line at) Says
  unfolding token_from
  from_says at =
      let b = slice_index line at in
      either_ok Says (ends_at line at) (Ok (token kinds.End at at)) _ (λ e. tt)
      (λ goes. either_ok Says (not (is_allowed b)) _ _ (λ e. tt)
      (λ e. either_ok Says (begins_name b) (Ok (token kinds.Name at (at + prefix_len continues_name (drop at line)))) (mark_or_number_at line at (mark_of b))
      (λ begins. let o = (or_none (nat_le (length line) at) (eqb b 59) goes).0 in let lt : at < length line = grind (arith, nat_tests) in
      name_at line at lt begins)
      (λ e. other_says at (mark_of b) (marks b))))

  next_says : (at : ℕ) → IfOk (next_token line at) Says
  unfolding next_token
  next_says at = from_says (at + prefix_len is_blank (drop at line))

  before_says : (t : Token) (r : Result (List Token) LexFault) → Says t → IfOk r (All Says) → IfOk (before t r) (All Says)
  before_says t (Ok ts) h all = All-cons Says t ts h all
  before_says t (Err fault) h all = tt

  then_says : (r : Result Token LexFault) (more : Token → Result (List Token) LexFault) → IfOk r Says → ((t : Token) → IfOk (more t) (All Says))
      → IfOk (and_then r (λ t. cond (is_end t.kind) (Ok []) (before t (more t)))) (All Says)
  then_says (Ok t) more h rest = either_ok (All Says) (is_end t.kind) (Ok []) (before t (more t)) (λ e. All-nil Says) (λ e. before_says t (more t) h (rest t))
  then_says (Err fault) more h rest = tt

  tokens_say : (most at : ℕ) → IfOk (tokens_within most line at) (All Says)
  tokens_say zero at = All-nil Says
  tokens_say (suc most) at = then_says (next_token line at) (λ t. tokens_within most line t.end) (next_says at) (λ t. tokens_say most t.end)

  words_say : (r : Result (List Token) LexFault) → IfOk r (All Says) → IfOk (words_at line r) (All IsSpelled)
  words_say (Ok tokens) h = All-map IsSpelled (word_at line) tokens h
  words_say (Err fault) h = tt

  all_say : IfOk (words_of line) (All IsSpelled)
  unfolding words_of tokens_of
  all_say = either_ok (All IsSpelled) (has_bad_byte line) _ (words_at line (tokens_of line)) (λ e. tt)
      (λ e. words_say (tokens_of line) (tokens_say (length line + 1) 0))

  or_none_say : (r : Result (List Word) Fault) → IfOk r (All IsSpelled) → All IsSpelled (words_or_none r)
  or_none_say (Ok words) h = h
  or_none_say (Err fault) h = All-nil IsSpelled

  pub line_is_spelled : All IsSpelled (line_words line)
  line_is_spelled = or_none_say (words_of line) all_say
