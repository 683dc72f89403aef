-- The tokens of a line. A place is the number of bytes before it.
use Rattle.std.specs.Prelude.{ℕ, zero, suc, ◌+◌, ◌^◌, ◌==◌, ◌||◌, ◌&&◌, nat_le, Bool, true, false, not, List, [], ◌∷◌, Option, Some, None, Result, Ok, Err, length, drop, slice_index, if◌then◌else◌, min}
use Rattle.std.specs.List.{prefix_len, take_while}
use Rattle.std.specs.Char.{is_digit}
use Rattle.std.specs.Str.Parse.{digits_value}
use Rattle.mx_lex.specs.Bytes.{is_blank, is_allowed, begins_name, continues_name}
use Rattle.mx_lex.specs.declared.token.Kind.{Kind}
use Rattle.mx_lex.specs.declared.token.Kind.TheVariants.{Name, Number, Comma, Open, Close, Hash, Colon, End}
use Rattle.mx_lex.specs.declared.token.Token.{Token}
use Rattle.mx_lex.specs.declared.token.LexFault.{LexFault}
use Rattle.mx_lex.specs.declared.token.LexFault.TheVariants.{BadByte, BadToken}

-- a token of this kind, from a place to another
abbrev pub token : Kind → ℕ → ℕ → Token
token kind start end = record { kind = kind; start = start; end = end }

-- The digits in this base that stand at a place, as many as there are: where they end, and their value up to 2 ^ 33.
-- There are none where no digit stands at the place, or where a byte of a name stands directly behind the digits.
unfoldable pub digits_at : List ℕ → ℕ → ℕ → Option (ℕ × ℕ)
digits_at line base at =
    let digits = take_while (λ b. is_digit b base) (drop at line) in
    let end = at + length digits in
    if length digits == 0 || continues_name (slice_index line end) then None else Some (end, min (digits_value base digits) (2 ^ 33))

-- `0x` or `0X` stands at the place
abbrev pub has_base_prefix : List ℕ → ℕ → Bool
has_base_prefix line at = slice_index line at == 48 && (slice_index line (at + 1) == 120 || slice_index line (at + 1) == 88)

-- decimal digits, or `0x` or `0X` and hexadecimal digits
unfoldable pub magnitude_at : List ℕ → ℕ → Option (ℕ × ℕ)
magnitude_at line at = if has_base_prefix line at then digits_at line 16 (at + 2) else digits_at line 10 at

-- the number that these digits from a place on make, or the place where no token fits
abbrev pub number_token : Bool → ℕ → Option (ℕ × ℕ) → Result Token LexFault
number_token negative at None = Err (BadToken at)
number_token negative at (Some found) = Ok (token (Number negative found.1) at found.0)

-- a number may have a `-` directly before it
unfoldable pub number_at : List ℕ → ℕ → Result Token LexFault
number_at line at =
    if slice_index line at == 45
    then number_token true at (magnitude_at line (at + 1))
    else number_token false at (magnitude_at line at)

-- a token of one byte
abbrev pub mark_of : ℕ → Option Kind
mark_of b =
    if b == 44 then Some Comma
    else (if b == 91 then Some Open
    else (if b == 93 then Some Close
    else (if b == 35 then Some Hash else (if b == 58 then Some Colon else None))))

abbrev pub mark_or_number_at : List ℕ → ℕ → Option Kind → Result Token LexFault
mark_or_number_at line at (Some kind) = Ok (token kind at (at + 1))
mark_or_number_at line at None = number_at line at

-- the line ends at the place, or a comment begins there
abbrev pub ends_at : List ℕ → ℕ → Bool
ends_at line at = nat_le (length line) at || slice_index line at == 59

-- the token that begins at this very place, or the fault that stands there
unfoldable pub token_from : List ℕ → ℕ → Result Token LexFault
token_from line at =
    let b = slice_index line at in
    if ends_at line at then Ok (token End at at)
    else (if not (is_allowed b) then Err (BadByte at)
    else (if begins_name b then Ok (token Name at (at + prefix_len continues_name (drop at line)))
    else mark_or_number_at line at (mark_of b)))

-- the next token from a place on, behind the blanks
unfoldable pub next_token : List ℕ → ℕ → Result Token LexFault
next_token line at = token_from line (at + prefix_len is_blank (drop at line))

-- the line ends at such a token, or its comment begins there
abbrev pub is_end : Kind → Bool
is_end End = true
is_end _ = false

-- a token, and the tokens behind it, unless it ends the line
abbrev pub before : Token → Result (List Token) LexFault → Result (List Token) LexFault
before t (Ok ts) = Ok (t ∷ ts)
before t (Err fault) = Err fault

-- what stands behind a token, or the fault in its place
abbrev pub and_then : Result Token LexFault → (Token → Result (List Token) LexFault) → Result (List Token) LexFault
and_then (Ok t) f = f t
and_then (Err fault) f = Err fault

-- the first so many tokens from a place on, up to the end of the line, or the first fault
abbrev pub tokens_within : ℕ → List ℕ → ℕ → Result (List Token) LexFault
tokens_within zero line at = Ok []
tokens_within (suc most) line at = and_then (next_token line at) (λ t. if is_end t.kind then Ok [] else before t (tokens_within most line t.end))

-- the tokens of a line up to its end, or its first fault: each token takes at least a byte
unfoldable pub tokens_of : List ℕ → Result (List Token) LexFault
tokens_of line = tokens_within (length line + 1) line 0
