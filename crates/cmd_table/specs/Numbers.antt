-- Numbers among the words of a command.
use Rattle.std.specs.Prelude.{ℕ, ◌&&◌, Bool, cond, leb, ltb, List, length, Option, Some, None, option_map}
use Rattle.std.specs.List.{list_all}
use Rattle.std.specs.Char.{digit_value}
use Rattle.std.specs.Str.Parse.{digits_value, without_leading_plus}

-- one or more decimal digits
abbrev pub is_digits : List ℕ → Bool
is_digits text = ltb 0 (length text) && list_all (λ c. ltb (digit_value c) 10) text

-- the number that a text spells, with at most one leading `+`, where it is `low` to `high`
abbrev pub number : ℕ → ℕ → List ℕ → Option ℕ
number low high text =
    let digits = without_leading_plus text in
    let n = digits_value 10 digits in
    cond (is_digits digits && (leb low n && leb n high)) (Some n) None

-- the number of an option, or its default where it is not given; none where it is faulty
abbrev pub number_or : ℕ → ℕ → ℕ → Option (List ℕ) → Option ℕ
number_or default low high None = Some default
number_or default low high (Some text) = number low high text

-- the number of an option, if it is given; none where it is faulty
abbrev pub optional : ℕ → ℕ → Option (List ℕ) → Option (Option ℕ)
optional low high None = Some None
optional low high (Some text) = option_map Some (number low high text)
