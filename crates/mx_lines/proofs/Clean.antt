-- A line that splits into tokens has no byte that may not stand in it.
use Rattle.std.proofs.Common.{◌≡◌, ℕ, suc, ◌+◌, ◌<◌, ◌≤◌, List, [], ◌∷◌, length, drop, get_or, Bool, true, false, not, cond, eqb, ◌||◌, ◌&&◌, Option, Some, None, Result, Ok, Err, refl, ap, sym, ◌∙◌, inl, inr, true≢false, arith}
use Rattle.std.specs.Prelude.{nat_le, slice_index}
use Rattle.std.specs.List.{prefix_len}
use Rattle.std.specs.Char.{is_digit, digit_value}
use Rattle.std.proofs.lemmas.Str.Parse.{digit_from_value}
use Rattle.std.proofs.lemmas.Bool.{cases_lt}
use Rattle.std.proofs.lemmas.Bool.Decides.{nat_tests}
use Rattle.std.proofs.lemmas.List.{at_drop_more, drop_all, drop-drop}
use Rattle.std.proofs.lemmas.List.Folds.{length-prefix_len}
use Rattle.mx_lex.specs.Bytes.{is_blank, is_allowed, begins_name, continues_name}
use Rattle.mx_lex.specs.Tokens.{token, digits_at, has_base_prefix, magnitude_at, number_token, number_at, mark_of, mark_or_number_at, ends_at, token_from, next_token, is_end}
use Rattle.mx_lex.specs.declared.token.Kind.{Kind}
use Rattle.mx_lex.specs.declared.token.Kind.TheVariants as kinds
use Rattle.mx_lex.specs.declared.token.Token.{Token}
use Rattle.mx_lex.specs.declared.token.LexFault.{LexFault}
use Rattle.mx_lex.specs.declared.token.LexFault.TheVariants as faults
use Rattle.mx_lines.specs.Words.{has_bad_byte}

-- a byte of a line that is neither a tab nor a `;`
abbrev pub is_clean : ℕ → Bool
is_clean b = (nat_le 32 b && nat_le b 126) && not (eqb b 59)

-- a byte of a name is neither a blank nor a byte that may not stand in a line
pub letter_is_clean : (b : ℕ) → begins_name b ≡ true → (is_clean b ≡ true) × (is_blank b ≡ false)
letter_is_clean b h = (grind (arith, nat_tests), grind (arith, nat_tests))

pub digit_is_clean : (b : ℕ) → 48 ≤ b → b ≤ 57 → is_clean b ≡ true
digit_is_clean b h k = grind (arith, nat_tests)

pub is_decimal_digit : (b : ℕ) → is_digit b 10 ≡ true → (48 ≤ b) × (b ≤ 57)
is_decimal_digit b h = let d : digit_value b < 10 = grind (arith, nat_tests) in let r = digit_from_value b d in omega arith

pub by_either : (b : ℕ) (x y : Bool) → (x ≡ true → is_clean b ≡ true) → (y ≡ true → is_clean b ≡ true) → x || y ≡ true → is_clean b ≡ true
by_either b true y f g h = f refl
by_either b false y f g h = g h

pub goes_on_clean : (b : ℕ) → continues_name b ≡ true → is_clean b ≡ true
goes_on_clean b h = by_either b (begins_name b) (is_digit b 10) (λ k. (letter_is_clean b k).0) (λ k. let r = is_decimal_digit b k in digit_is_clean b r.0 r.1) h

-- a byte that may stand in a line, and ends none
is_plain : ℕ → Bool
is_plain b = is_allowed b && not (eqb b 59)

plain_step : (allowed ends later : Bool) → allowed && not ends ≡ true → cond ends false (not allowed || later) ≡ later
plain_step true false later h = refl
plain_step true true later h = cc
plain_step false ends later h = cc

over : (b : ℕ) (rest : List ℕ) → is_plain b ≡ true → has_bad_byte (b ∷ rest) ≡ has_bad_byte rest
unfolding is_plain
over b rest h = plain_step (is_allowed b) (eqb b 59) (has_bad_byte rest) h

front_step : (p : Bool) (b : ℕ) (xs : List ℕ) (n : ℕ) → (p ≡ true → is_plain b ≡ true) → has_bad_byte (drop n xs) ≡ has_bad_byte xs
    → has_bad_byte (drop (cond p (1 + n) 0) (b ∷ xs)) ≡ has_bad_byte (b ∷ xs)
front_step true b xs n h e = let more : 1 + n ≡ suc n = omega arith in ap (λ k. has_bad_byte (drop k (b ∷ xs))) more ∙ e ∙ sym (over b xs (h refl))
front_step false b xs n h e = refl

over_front : (p : ℕ → Bool) → ((b : ℕ) → p b ≡ true → is_plain b ≡ true) → (xs : List ℕ) → has_bad_byte (drop (prefix_len p xs) xs) ≡ has_bad_byte xs
over_front p h [] = refl
over_front p h (b ∷ xs) = front_step (p b) b xs (prefix_len p xs) (h b) (over_front p h xs)

-- the bytes from a place to another are plain
abbrev Plain : List ℕ → ℕ → ℕ → Type 0
Plain line at end = has_bad_byte (drop end line) ≡ has_bad_byte (drop at line)

past_front : (p : ℕ → Bool) → ((b : ℕ) → p b ≡ true → is_plain b ≡ true) → (line : List ℕ) (at : ℕ) → Plain line at (at + prefix_len p (drop at line))
past_front p h line at = ap has_bad_byte (sym (drop-drop (prefix_len p (drop at line)) at line)) ∙ over_front p h (drop at line)

past_one : (line : List ℕ) (at : ℕ) → is_plain (slice_index line at) ≡ true → Plain line at (at + 1)
past_one line at h =
    elim (cases_lt at (length line)) [
      | inl lt ↦ sym (at_drop_more has_bad_byte line at 0 lt ∙ over (get_or line at 0) (drop (at + 1) line) h)
      | inr le ↦ ap has_bad_byte (drop_all (at + 1) line (omega (arith, le)) ∙ sym (drop_all at line le))
    ]

blank_plain : (b : ℕ) → is_blank b ≡ true → is_plain b ≡ true
unfolding is_plain
blank_plain b h = grind (arith, nat_tests)

clean_plain : (b : ℕ) → is_clean b ≡ true → is_plain b ≡ true
unfolding is_plain
clean_plain b h = grind (arith, nat_tests)

digit_plain : (b base : ℕ) → base ≤ 16 → is_digit b base ≡ true → is_plain b ≡ true
unfolding is_plain
digit_plain b base h k = grind (arith, nat_tests)

-- digits
some_end : (none : Bool) (end value : ℕ) (found : ℕ × ℕ) → cond none None (Some (end, value)) ≡ Some found → found.0 ≡ end
some_end true end value found h = cc
some_end false end value found h = cc

past_digits : (line : List ℕ) (base at : ℕ) (found : ℕ × ℕ) → base ≤ 16 → digits_at line base at ≡ Some found → Plain line at found.0
unfolding digits_at
past_digits line base at found small h =
    let p = λ (b : ℕ). is_digit b base in
    let many = length-prefix_len p (drop at line) in
    ap (λ k. has_bad_byte (drop k line)) (some_end _ _ _ found h ∙ ap (λ n. at + n) many) ∙ past_front p (λ b k. digit_plain b base small k) line at

both : (a b : Bool) → a && b ≡ true → (a ≡ true) × (b ≡ true)
both true b h = (refl, h)
both false b h = cc

zero_plain : (b : ℕ) → eqb b 48 ≡ true → is_plain b ≡ true
unfolding is_plain
zero_plain b h = grind (arith, nat_tests)

x_plain : (b : ℕ) → eqb b 120 || eqb b 88 ≡ true → is_plain b ≡ true
unfolding is_plain
x_plain b h = grind (arith, nat_tests)

minus_plain : (b : ℕ) → eqb b 45 ≡ true → is_plain b ≡ true
unfolding is_plain
minus_plain b h = grind (arith, nat_tests)

past_magnitude : (line : List ℕ) (at : ℕ) (found : ℕ × ℕ) → magnitude_at line at ≡ Some found → Plain line at found.0
unfolding magnitude_at
past_magnitude line at found h = by_prefix (has_base_prefix line at) refl h
  where
    by_prefix : (t : Bool) → has_base_prefix line at ≡ t → cond t (digits_at line 16 (at + 2)) (digits_at line 10 at) ≡ Some found → Plain line at found.0
    by_prefix true is h =
        let bytes = both (eqb (slice_index line at) 48) _ is in
        let two : at + 2 ≡ at + 1 + 1 = omega arith in
        past_digits line 16 (at + 2) found (omega arith) h
        ∙ ap (λ k. has_bad_byte (drop k line)) two
        ∙ past_one line (at + 1) (x_plain _ bytes.1)
        ∙ past_one line at (zero_plain _ bytes.0)
    by_prefix false is h = past_digits line 10 at found (omega arith) h

-- where a token ends that was read, and whether it ends the line
end_of : Result Token LexFault → ℕ
end_of (Ok t) = t.end
end_of (Err fault) = 0

ends_of : Result Token LexFault → Bool
ends_of (Ok t) = is_end t.kind
ends_of (Err fault) = false

-- what a token that was found says
found_number : (negative : Bool) (at : ℕ) (o : Option (ℕ × ℕ)) (t : Token) → number_token negative at o ≡ Ok t
    → (found : ℕ × ℕ) × (o ≡ Some found) × (t.end ≡ found.0) × (is_end t.kind ≡ false)
unfolding end_of ends_of
found_number negative at None t h = cc
found_number negative at (Some found) t h = (found, refl, ap end_of (sym h), ap ends_of (sym h))

mark_bytes : (b : ℕ) → eqb b 44 || eqb b 91 || eqb b 93 || eqb b 35 || eqb b 58 ≡ true → is_plain b ≡ true
unfolding is_plain
mark_bytes b h = grind (arith, nat_tests)

kind_ends : Option Kind → Bool
kind_ends (Some kind) = is_end kind
kind_ends None = false

a_mark : (comma opens closes hash colon : Bool) (kind : Kind)
    → cond comma (Some kinds.Comma)
    (cond opens (Some kinds.Open) (cond closes (Some kinds.Close) (cond hash (Some kinds.Hash) (cond colon (Some kinds.Colon) None)))) ≡ Some kind
    → (comma || opens || closes || hash || colon ≡ true) × (is_end kind ≡ false)
unfolding kind_ends
a_mark true opens closes hash colon kind h = (refl, ap kind_ends (sym h))
a_mark false true closes hash colon kind h = (refl, ap kind_ends (sym h))
a_mark false false true hash colon kind h = (refl, ap kind_ends (sym h))
a_mark false false false true colon kind h = (refl, ap kind_ends (sym h))
a_mark false false false false true kind h = (refl, ap kind_ends (sym h))
a_mark false false false false false kind h = cc

-- a token leaves no byte behind it that may not stand there, and none is before the end of the line
pub record Clean (line : List ℕ) (at : ℕ) (t : Token) : Type 0 where
  pub plain : has_bad_byte (drop t.end line) ≡ has_bad_byte (drop at line)
  pub last : is_end t.kind ≡ true → has_bad_byte (drop at line) ≡ false

not_last : (e : Bool) (A : Type 0) → e ≡ false → e ≡ true → A
not_last true A h k = absurd (true≢false h)
not_last false A h k = absurd (true≢false (sym k))

-- a token that goes on
goes : (line : List ℕ) (at end : ℕ) (t : Token) → t.end ≡ end → is_end t.kind ≡ false → Plain line at end → Clean line at t
goes line at end t e not_end h = record {
  plain = ap (λ k. has_bad_byte (drop k line)) e ∙ h;
  last = not_last (is_end t.kind) (has_bad_byte (drop at line) ≡ false) not_end;
}

clean_number : (line : List ℕ) (at : ℕ) (t : Token) → number_at line at ≡ Ok t → Clean line at t
unfolding number_at
clean_number line at t h = by_sign (eqb (slice_index line at) 45) refl h
  where
    by_sign : (minus : Bool) → eqb (slice_index line at) 45 ≡ minus
        → cond minus (number_token true at (magnitude_at line (at + 1))) (number_token false at (magnitude_at line at)) ≡ Ok t → Clean line at t
    by_sign true is h =
        let n = found_number true at (magnitude_at line (at + 1)) t h in
        goes line at n.0.0 t n.2 n.3 (past_magnitude line (at + 1) n.0 n.1 ∙ past_one line at (minus_plain _ is))
    by_sign false is h =
        let n = found_number false at (magnitude_at line at) t h in
        goes line at n.0.0 t n.2 n.3 (past_magnitude line at n.0 n.1)

at_comment : (ends : Bool) (later : Bool) → ends ≡ true → cond ends false later ≡ false
at_comment true later h = refl
at_comment false later h = cc

in_comment : (line : List ℕ) (at : ℕ) → at < length line → ends_at line at ≡ true → eqb (get_or line at 0) 59 ≡ true
in_comment line at lt h = grind (arith, nat_tests)

clean_end : (line : List ℕ) (at : ℕ) → ends_at line at ≡ true → has_bad_byte (drop at line) ≡ false
clean_end line at h =
    elim (cases_lt at (length line)) [
      | inl lt ↦ at_drop_more has_bad_byte line at 0 lt ∙ at_comment (eqb (get_or line at 0) 59) _ (in_comment line at lt h)
      | inr le ↦ ap has_bad_byte (drop_all at line le)
    ]

clean_from : (line : List ℕ) (at : ℕ) (t : Token) → token_from line at ≡ Ok t → Clean line at t
unfolding token_from end_of ends_of
clean_from line at t h = by_byte (ends_at line at) (is_allowed (slice_index line at)) (begins_name (slice_index line at))
    (mark_of (slice_index line at)) refl refl h
  where
    by_byte : (ended allowed begins : Bool) (mark : Option Kind) → ends_at line at ≡ ended → mark_of (slice_index line at) ≡ mark
        → cond ended (Ok (token kinds.End at at))
        (cond (not allowed) (Err (faults.BadByte at))
        (cond begins (Ok (token kinds.Name at (at + prefix_len continues_name (drop at line)))) (mark_or_number_at line at mark))) ≡ Ok t
        → Clean line at t
    by_byte true allowed begins mark is m h = record {
      plain = ap (λ k. has_bad_byte (drop k line)) (ap end_of (sym h));
      last = λ _. clean_end line at is;
    }
    by_byte false false begins mark is m h = cc
    by_byte false true true mark is m h =
        goes line at (at + prefix_len continues_name (drop at line)) t (ap end_of (sym h)) (ap ends_of (sym h))
        (past_front continues_name (λ b k. clean_plain b (goes_on_clean b k)) line at)
    by_byte false true false (Some kind) is m h =
        let mark = a_mark (eqb (slice_index line at) 44) (eqb (slice_index line at) 91) (eqb (slice_index line at) 93) (eqb (slice_index line at) 35)
        (eqb (slice_index line at) 58) kind m in
        goes line at (at + 1) t (ap end_of (sym h)) (ap ends_of (sym h) ∙ mark.1) (past_one line at (mark_bytes (slice_index line at) mark.0))
    by_byte false true false None is m h = clean_number line at t h

pub clean_token : (line : List ℕ) (at : ℕ) (t : Token) → next_token line at ≡ Ok t → Clean line at t
unfolding next_token
clean_token line at t h =
    let blanks = past_front is_blank blank_plain line at in
    let here = clean_from line (at + prefix_len is_blank (drop at line)) t h in
    record { plain = here.plain ∙ blanks; last = λ e. sym blanks ∙ here.last e }
