-- Numbers and lines as printed.
use Rattle.std.specs.Prelude.{ℕ, ◌+◌, ◌/◌, ◌%◌, ◌^◌, List, [], ◌∷◌, ◌++◌, length, codes, if◌then◌else◌, nat_lt, zero, suc}
use Rattle.std.specs.Fmt.{decimal}

-- a digit from 0 to 15, in lower case
abbrev pub hex_digit : ℕ → ℕ
hex_digit d = if nat_lt d 10 then 48 + d else 87 + d

-- a word as eight hexadecimal digits
unfoldable pub word_text : ℕ → List ℕ
word_text n =
    hex_digit (n / 2 ^ 28) ∷ hex_digit (n / 2 ^ 24 % 16) ∷ hex_digit (n / 2 ^ 20 % 16) ∷ hex_digit (n / 2 ^ 16 % 16)
    ∷ hex_digit (n / 2 ^ 12 % 16) ∷ hex_digit (n / 2 ^ 8 % 16) ∷ hex_digit (n / 2 ^ 4 % 16) ∷ hex_digit (n % 16) ∷ []

abbrev pub line : List ℕ → List ℕ
line text = text ++ 10 ∷ []

-- `NAME VALUE`
abbrev pub named_line : List ℕ → List ℕ → List ℕ
named_line name value = (name ++ 32 ∷ value) ++ 10 ∷ []

-- `NAME N`, in decimal
abbrev pub count_line : List ℕ → ℕ → List ℕ
count_line name n = named_line name (decimal n)

-- `rN VALUE`
abbrev pub register_line : ℕ → List ℕ → List ℕ
register_line n value = named_line (114 ∷ decimal n) value

-- the lines of `count` numbers from n on, by the line of each
unfoldable pub lines_from : (ℕ → List ℕ) → ℕ → ℕ → List ℕ
lines_from line_of zero n = []
lines_from line_of (suc count) n = line_of n ++ lines_from line_of count (n + 1)

-- `ADDRESS WORD`
abbrev pub word_line : ℕ → ℕ → List ℕ
word_line address word = named_line (word_text address) (word_text word)

-- `console N`, the N bytes, and the end of the line
abbrev pub console_lines : List ℕ → List ℕ
console_lines bytes = count_line (codes "console") (length bytes) ++ line bytes
