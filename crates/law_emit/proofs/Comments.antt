-- A comment has no words.
use Rattle.std.proofs.Common.{◌≡◌, ℕ, suc, ◌+◌, ◌^◌, ◌≤◌, ◌<◌, Bool, true, false, cond, ◌||◌, ◌&&◌, List, [], ◌∷◌, ◌++◌, length, Option, Some, None, Ok, inl, inr, refl, ap, ◌∙◌, arith, decimal, Bor}
use Rattle.std.specs.Prelude.{nat_le, codes, not, ◌==◌}
use Rattle.std.specs.List.{filter}
use Rattle.std.specs.Str.Parse.{AllDigits}
use Rattle.std.specs.Char.{digit_value}
use Rattle.std.proofs.lemmas.Bool.Decides.{nat_tests}
use Rattle.std.proofs.lemmas.Fmt.{decimal_is_IsNumeral}
use Rattle.std.proofs.lemmas.Str.Parse.{digit_from_value}
use Rattle.mx_asm.specs.declared.position.Section.TheVariants as section
use Rattle.mx_asm.specs.Directives.{Nothing, effect_of}
use Rattle.mx_asm.specs.Positions.{front_names, statement_words, line_words, words_or_none, behind}
use Rattle.mx_asm.proofs.Spelled.{and_both}
use Rattle.mx_lines.specs.Instructions.{Labels}
use Rattle.cc_emit.specs.Lines.{told_text}
use Rattle.law_emit.specs.Reading.{Reads, ReadsAs, FileFits, code_at, is_one_line}
use Rattle.law_emit.proofs.Alone.{alone, both_lines, goes_on}
use Rattle.law_emit.proofs.Places.{behind_code}
use Rattle.mx_lex.specs.Tokens.{token, tokens_of, tokens_within, next_token, token_from, is_end, and_then, before}
use Rattle.mx_lex.specs.declared.token.Kind.TheVariants as kinds
use Rattle.mx_lines.specs.Words.{words_at, words_of}

or_true : (b : Bool) → (b || true) ≡ true
or_true true = refl
or_true false = refl

ends : (text : List ℕ) → next_token (59 ∷ text) 0 ≡ Ok (token kinds.End 0 0)
unfolding next_token token_from
ends text = rw (or_true (nat_le (length (59 ∷ text)) 0)) refl

pub comment_words : (text : List ℕ) → words_of (59 ∷ text) ≡ Ok []
unfolding words_of tokens_of
comment_words text =
    let line = 59 ∷ text in
    let most : length line + 1 ≡ suc (length line) = omega arith in
    ap (λ k. words_at line (tokens_within k line 0)) most
    ∙ ap (λ r. words_at line (and_then r (λ t. cond (is_end t.kind) (Ok []) (before t (tokens_within (length line) line t.end))))) (ends text)

no_effect : (K : Labels) → effect_of K section.Code [] ≡ Ok Nothing
unfolding effect_of
no_effect K = refl

-- the line of a comment
pub comment_reads : (K : Labels) (text : List ℕ) → is_one_line (59 ∷ text) ≡ true → ReadsAs K (59 ∷ text ++ codes "\n") [] 0 None
comment_reads K text one = record {
  line = 59 ∷ text;
  alone = alone (59 ∷ text) one;
  labelled = ap front_names none;
  effect = ap (λ ws. effect_of K section.Code (statement_words ws)) none ∙ no_effect K;
  next = λ index address near. ap (λ ws. behind (code_at index address) (statement_words ws)) none ∙ behind_code index address 0 [] refl refl refl near;
}
  where
    none : line_words (59 ∷ text) ≡ []
    none = ap words_or_none (comment_words text)

still_one : (keep : ℕ → Bool) (text : List ℕ) → is_one_line text ≡ true → is_one_line (filter keep text) ≡ true
still_one keep [] h = refl
still_one keep (b ∷ text) h = let both = and_both (goes_on b) (is_one_line text) h in by_test (keep b) both.0 (still_one keep text both.1)
  where
    by_test : (t : Bool) → goes_on b ≡ true → is_one_line (filter keep text) ≡ true → is_one_line (cond t (b ∷ filter keep text) (filter keep text)) ≡ true
    by_test true g k = ap (λ t. t && is_one_line (filter keep text)) g ∙ k
    by_test false g k = k

digit_goes_on : (b : ℕ) → digit_value b < 10 → goes_on b ≡ true
digit_goes_on b h = let r = digit_from_value b h in plain b (omega arith) (omega arith)
  where
    plain : (b : ℕ) → 48 ≤ b → b ≤ 57 → goes_on b ≡ true
    plain b h k = grind (arith, nat_tests)

pub digits_one : (ds : List ℕ) → AllDigits 10 ds → is_one_line ds ≡ true
digits_one [] h = refl
digits_one (d ∷ ds) h = ap (λ t. t && is_one_line ds) (digit_goes_on d h.0) ∙ digits_one ds h.1

abbrev unquoted : List ℕ → List ℕ
unquoted name = filter (λ b. not (b == 34)) name

-- the comment with the file and the line of a statement
pub told_reads : (K : Labels) (name : Option (Bor (List ℕ))) (line : ℕ) → FileFits name → line < 2 ^ 32 → Reads K (told_text name line) [] 0 None
told_reads K None line h small = inl (record { untold = refl; unlabelled = refl; uncounted = refl; unsaid = refl })
told_reads K (Some name) line h small = by_length (nat_le (length name.now) 160) refl
  where
    one : is_one_line name.now ≡ true → is_one_line (codes "; " ++ unquoted name.now ++ codes ":" ++ decimal line) ≡ true
    one named =
        both_lines (codes "; " ++ unquoted name.now ++ codes ":") (decimal line)
        (both_lines (codes "; " ++ unquoted name.now) (codes ":") (both_lines (codes "; ") (unquoted name.now) refl
        (still_one (λ b. not (b == 34)) name.now named)) refl)
        (digits_one (decimal line) (decimal_is_IsNumeral line (omega arith)).0.1)

    by_length : (t : Bool) → nat_le (length name.now) 160 ≡ t
        → Reads K (cond t (codes "; " ++ unquoted name.now ++ codes ":" ++ decimal line ++ codes "\n") []) [] 0 None
    by_length true e = inr (comment_reads K (32 ∷ unquoted name.now ++ codes ":" ++ decimal line) (one (h e)))
    by_length false e = inl (record { untold = refl; unlabelled = refl; uncounted = refl; unsaid = refl })
