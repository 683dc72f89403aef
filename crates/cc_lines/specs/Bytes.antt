-- The bytes that a line of assembly is made of.
use Rattle.std.specs.Prelude.{ℕ, Bool, ◌||◌, ◌==◌, ◌-◌, ◌≡◌, not, cond, nat_eq, List, [], ◌∷◌, length, reverse, take, drop}
use Rattle.std.specs.List.{position_or_len, before_first, after_first, starts_with}
use Rattle.std.specs.Char.{is_ascii_alphanumeric}

-- a space, a tab or a CR
abbrev pub is_blank : ℕ → Bool
is_blank b = b == 32 || b == 9 || b == 13

-- a letter, a decimal digit, `_`, `.` or `$`
abbrev pub is_named : ℕ → Bool
is_named b = is_ascii_alphanumeric b || b == 95 || b == 46 || b == 36

-- a text from the first byte on that passes p
abbrev pub rest_from : (ℕ → Bool) → List ℕ → List ℕ
rest_from p text = drop (position_or_len p text) text

-- the bytes at the front that may be in a name, and the rest after them
abbrev pub name_of : List ℕ → List ℕ
name_of text = before_first (λ b. not (is_named b)) text

abbrev pub behind_name : List ℕ → List ℕ
behind_name text = rest_from (λ b. not (is_named b)) text

-- a text without the blanks at its front, at its end, and at both
abbrev pub front_trimmed : List ℕ → List ℕ
front_trimmed text = rest_from (λ b. not (is_blank b)) text

abbrev pub end_trimmed : List ℕ → List ℕ
end_trimmed text = take (length text - position_or_len (λ b. not (is_blank b)) (reverse text)) text

abbrev pub trimmed : List ℕ → List ℕ
trimmed text = end_trimmed (front_trimmed text)

-- how many bytes at the front of a text are `','`, whose comma ends no value
abbrev pub comma_before : List ℕ → ℕ
comma_before text = cond (starts_with nat_eq text (39 ∷ 44 ∷ 39 ∷ [])) 3 0

-- the rest of a text after its first value and the comma that ends that
abbrev pub after_value : List ℕ → List ℕ
after_value text = after_first (λ b. b == 44) (drop (comma_before (front_trimmed text)) (front_trimmed text))

-- one list begins with all of another
abbrev pub Extends : List ℕ → List ℕ → Type 0
Extends before after = take (length before) after ≡ before
