-- Labels that are numbers.
use Rattle.std.specs.Prelude.{ℕ, Bool, not, ◌&&◌, ◌||◌, ◌==◌, ◌-◌, List, length, take, slice_get, option_map, unwrap_or, false}
use Rattle.std.specs.Char.{is_ascii_digit}
use Rattle.std.specs.List.{list_all}

-- a name that is a number: decimal digits, at least one
abbrev pub is_numbered : List ℕ → Bool
is_numbered name = not (length name == 0) && list_all is_ascii_digit name

-- a text's last byte is a `b` or an `f`
abbrev pub turns : List ℕ → Bool
turns text = unwrap_or (option_map (λ b. b == 98 || b == 102) (slice_get text (length text - 1))) false

-- a text that names such a label: the last one before the line, as `1b`, or the next one, as `1f`
abbrev pub names_numbered : List ℕ → Bool
names_numbered text = turns text && is_numbered (take (length text - 1) text)
