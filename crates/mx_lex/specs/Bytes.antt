-- The kinds of bytes that a line is made of.
use Rattle.std.specs.Prelude.{ℕ, Bool, ◌||◌, ◌&&◌, ◌==◌, nat_le}
use Rattle.std.specs.Char.{is_digit}
use Rattle.mx_lex.specs.declared.bytes.Run.{Run}
use Rattle.mx_lex.specs.declared.bytes.Run.TheVariants.{Blanks, Name}

-- a space or a tab
abbrev pub is_blank : ℕ → Bool
is_blank b = b == 32 || b == 9

-- a byte that may stand outside comments: 32 to 126, or a tab
abbrev pub is_allowed : ℕ → Bool
is_allowed b = nat_le 32 b && nat_le b 126 || b == 9

-- `A` to `Z`, or `a` to `z`
abbrev pub is_letter : ℕ → Bool
is_letter b = nat_le 65 b && nat_le b 90 || nat_le 97 b && nat_le b 122

-- a letter, `_` or `.`
abbrev pub begins_name : ℕ → Bool
begins_name b = is_letter b || b == 95 || b == 46

-- a letter, `_`, `.` or a decimal digit
abbrev pub continues_name : ℕ → Bool
continues_name b = begins_name b || is_digit b 10

-- a byte with which a run goes on
abbrev pub is_in : Run → ℕ → Bool
is_in Blanks = is_blank
is_in Name = continues_name
