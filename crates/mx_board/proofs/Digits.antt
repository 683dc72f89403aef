-- The number that digits write, as std reads it.
use Rattle.std.proofs.Common.{rules, ◌≡◌, ℕ, zero, suc, ◌+◌, ◌<◌, true, false, cond, ◌&&◌, List, [], ◌∷◌, length, take, Result, Ok, Err, refl, arith}
use Rattle.std.specs.Char.{is_ascii_digit}
use Rattle.std.specs.List.{prefix_len}
use Rattle.std.specs.Str.{all_ascii_digits, IsAscii, IsUtf8}
use Rattle.std.specs.Result.{result_ok}
use Rattle.std.specs.Str.Parse.{ParsesUnsigned}
use Rattle.std.proofs.lemmas.Bool.Decides.{nat_tests}
use Rattle.std.proofs.lemmas.Bool.{and_parts}
use Rattle.std.proofs.lemmas.Str.{IsUtf8-from_ascii}
use Rattle.std.proofs.lemmas.Str.Parse.{IsNumeralModel, numerals_by_fold, parse_digits}
use Rattle.mx_board.specs.RequestFile.{number_after, number_of_digits}

own : IsNumeralModel (λ ds. all_ascii_digits ds ≡ true) (number_after 0)
own = numerals_by_fold _ (search rules) number_after (search rules)

-- the number that was read, and none where none was
pub number_is : {E : Type 0} (digits : List ℕ) (r : Result ℕ E) → ParsesUnsigned 32 10 digits r → 0 < length digits → all_ascii_digits digits ≡ true
    → result_ok r ≡ number_of_digits digits
number_is {E} digits (Ok n) h some all = let q = parse_digits own {E = E} 32 digits (Ok n) h all in grind (arith, nat_tests)
number_is {E} digits (Err e) h some all = let q = parse_digits own {E = E} 32 digits (Err e) h all in grind (arith, nat_tests)

-- the digits in front of a text
pub front_digits : (text : List ℕ) → all_ascii_digits (take (prefix_len is_ascii_digit text) text) ≡ true
front_digits [] = refl
front_digits (c ∷ text) =
    elim (is_ascii_digit c) as (λ b. is_ascii_digit c ≡ b → all_ascii_digits (take (cond b (1 + prefix_len is_ascii_digit text) 0) (c ∷ text)) ≡ true) [
      | true ↦ λ e. let s : 1 + prefix_len is_ascii_digit text ≡ suc (prefix_len is_ascii_digit text) = omega arith in
          rw s (λ k. e k && front_digits text k)
      | false ↦ λ e. refl
    ] refl

digit_is_ascii : (c : ℕ) → is_ascii_digit c ≡ true → c < 128
digit_is_ascii c h = grind (arith, nat_tests)

digits_are_ascii : (digits : List ℕ) → all_ascii_digits digits ≡ true → IsAscii digits
digits_are_ascii [] h i = omega arith
digits_are_ascii (c ∷ digits) h zero = digit_is_ascii c (and_parts _ _ h).0
digits_are_ascii (c ∷ digits) h (suc i) = digits_are_ascii digits (and_parts _ _ h).1 i

pub digits_are_text : (digits : List ℕ) → all_ascii_digits digits ≡ true → IsUtf8 digits
digits_are_text digits h = IsUtf8-from_ascii digits (digits_are_ascii digits h)
