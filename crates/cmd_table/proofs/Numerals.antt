-- Numerals by a test on their digits.
use Rattle.std.proofs.Common.{◌≡◌, ℕ, ◌<◌, ◌≤◌, ◌⊎◌, ⊎_elim, Bool, true, false, List, [], ◌∷◌, length, Option, Some, None, refl, sym, ap, ◌∙◌, arith, IfSome}
use Rattle.std.specs.Prelude.{IfNone, ltb, leb, ◌&&◌}
use Rattle.std.specs.List.{list_all}
use Rattle.std.specs.Char.{digit_value}
use Rattle.std.specs.Str.Parse.{IsNumeral, AllDigits, digits_value, without_leading_plus}
use Rattle.std.proofs.lemmas.Bool.{cases_Bool, cond-true, cond-false}
use Rattle.std.proofs.lemmas.Bool.Decides.{nat_tests}
use Rattle.cmd_table.specs.Numbers.{is_digits, number}

both : (a b : Bool) → a ≡ true → b ≡ true → (a && b) ≡ true
both a b p q = ap (λ x. x && b) p ∙ q

left : (a b : Bool) → (a && b) ≡ true → a ≡ true
left true b h = refl
left false b h = absurd (cc)

right : (a b : Bool) → (a && b) ≡ true → b ≡ true
right true b h = h
right false b h = absurd (cc)

abbrev digits_pass : List ℕ → Bool
digits_pass text = list_all (λ c. ltb (digit_value c) 10) text

pass : (text : List ℕ) → AllDigits 10 text → digits_pass text ≡ true
pass [] all = refl
pass (c ∷ text) all = both (ltb (digit_value c) 10) (digits_pass text) (grind (arith, nat_tests, all.0)) (pass text all.1)

passed : (text : List ℕ) → digits_pass text ≡ true → AllDigits 10 text
passed [] h = tt
passed (c ∷ text) h =
    let first : ltb (digit_value c) 10 ≡ true = left (ltb (digit_value c) 10) (digits_pass text) h in
    (grind (arith, nat_tests, first), passed text (right (ltb (digit_value c) 10) (digits_pass text) h))

digits_of : (text : List ℕ) → IsNumeral 10 text → is_digits text ≡ true
digits_of text is = both (ltb 0 (length text)) (digits_pass text) (grind (arith, nat_tests, is.0)) (pass text is.1)

numeral_of : (text : List ℕ) → is_digits text ≡ true → IsNumeral 10 text
numeral_of text h =
    let some : ltb 0 (length text) ≡ true = left (ltb 0 (length text)) (digits_pass text) h in
    (grind (arith, nat_tests, some), passed text (right (ltb 0 (length text)) (digits_pass text) h))

no_second : (a b : Bool) → b ≡ false → (a && b) ≡ false
no_second true b h = h
no_second false b h = refl

-- a test of a text's digits and range that answers so is the number
pub number_is : (low high : ℕ) (text : List ℕ) (found : Option ℕ)
    → IfSome found (λ n. IsNumeral 10 (without_leading_plus text))
    → IfSome found (λ n. n ≡ digits_value 10 (without_leading_plus text))
    → IfSome found (λ n. (low ≤ n) × (n ≤ high))
    → IfNone found (IsNumeral 10 (without_leading_plus text)
    → (digits_value 10 (without_leading_plus text) < low) ⊎ (high < digits_value 10 (without_leading_plus text)))
    → found ≡ number low high text
number_is low high text (Some n) numeral value range other =
    let digits = without_leading_plus text in
    let v = digits_value 10 digits in
    let above : leb low v ≡ true = grind (arith, nat_tests, value, range.0) in
    let below : leb v high ≡ true = grind (arith, nat_tests, value, range.1) in
    ap Some value ∙ sym (cond-true _ (Some v) None
    (both (is_digits digits) (leb low v && leb v high) (digits_of digits numeral) (both (leb low v) (leb v high) above below)))
number_is low high text None numeral value range other =
    let digits = without_leading_plus text in
    let v = digits_value 10 digits in
    ⊎_elim
    (λ is. let outside = other (numeral_of digits is) in
    let fails : (leb low v && leb v high) ≡ false = ⊎_elim (λ l. grind (arith, nat_tests, l)) (λ h. grind (arith, nat_tests, h)) outside in
    sym (cond-false _ (Some v) None (no_second (is_digits digits) (leb low v && leb v high) fails)))
    (λ fails. sym (cond-false _ (Some v) None (ap (λ x. x && (leb low v && leb v high)) fails)))
    (cases_Bool (is_digits digits))
