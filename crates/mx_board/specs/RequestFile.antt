-- What an interrupt file says: one number a line, each greater than the one before.
use Rattle.std.specs.Prelude.{ℕ, ◌+◌, ◌-◌, ◌*◌, ◌^◌, Bool, ◌==◌, nat_lt, nat_le, ◌&&◌, ◌||◌, if◌then◌else◌, List, [], ◌∷◌, ◌++◌, length, take, drop, map, slice_index, Option, Some, None, Result, Ok, Err}
use Rattle.std.specs.Char.{is_ascii_digit}
use Rattle.std.specs.List.{slice_split, prefix_len, filter_map, list_any}
use Rattle.std.specs.Option.{option_or}
use Rattle.std.specs.Str.Lines.{strip_carriage_return}
use Rattle.mx_board.specs.declared.requests.TheConstants.{MAX_REQUESTS}
use Rattle.mx_board.specs.declared.requests.EventError.{EventError}
use Rattle.mx_board.specs.declared.requests.EventError.TheVariants.{BadLine, TooMany, NotAscending}

-- the bytes between line feeds
abbrev pub pieces : List ℕ → List (List ℕ)
pieces bytes = slice_split (λ b. b == 10) bytes

-- the lines of a file; a carriage return at the end of a line is dropped
abbrev pub lines_of : List ℕ → List (List ℕ)
lines_of bytes = map strip_carriage_return (pieces bytes)

-- space and tab
abbrev pub is_blank : ℕ → Bool
is_blank b = b == 32 || b == 9

-- a text without the blanks in front
abbrev pub without_blanks : List ℕ → List ℕ
without_blanks text = drop (prefix_len is_blank text) text

-- a line of blanks alone, which is passed over
abbrev pub is_blank_line : List ℕ → Bool
is_blank_line line = prefix_len is_blank line == length line

-- the number that digits write, after those of n
abbrev pub number_after : ℕ → List ℕ → ℕ
number_after n [] = n
number_after n (c ∷ digits) = number_after (n * 10 + (c - 48)) digits

-- the number of digits, where it has 32 bits
abbrev pub number_of_digits : List ℕ → Option ℕ
number_of_digits digits = if nat_lt (number_after 0 digits) (2 ^ 32) then Some (number_after 0 digits) else None

-- the number of a line: blanks, one or more digits, and blanks
abbrev pub number_of : List ℕ → Option ℕ
number_of line =
    let text = without_blanks line in
    let count = prefix_len is_ascii_digit text in
    if nat_lt 0 count && is_blank_line (drop count text) then number_of_digits (take count text) else None

-- the numbers of lines
abbrev pub numbers_of : List (List ℕ) → List ℕ
numbers_of lines = filter_map number_of lines

-- a number may follow these, which rise
abbrev pub may_follow : List ℕ → ℕ → Bool
may_follow before n = length before == 0 || nat_lt (slice_index before (length before - 1)) n

-- the fault of a line that is not blank, after these numbers; the line's number is `at`
abbrev pub fault_of_number : List ℕ → ℕ → Option ℕ → Option EventError
fault_of_number before at None = Some (BadLine at)
fault_of_number before at (Some n) =
    if nat_le MAX_REQUESTS (length before) then Some (TooMany at) else if may_follow before n then None else Some (NotAscending at)

-- the fault of a line after these numbers, if it has one
abbrev pub fault_of : List ℕ → ℕ → List ℕ → Option EventError
fault_of before at line = if is_blank_line line then None else fault_of_number before at (number_of line)

-- the first faulty one of some lines, which follow others, and its fault
abbrev pub first_fault : List (List ℕ) → List (List ℕ) → Option EventError
first_fault before [] = None
first_fault before (line ∷ lines) =
    option_or (fault_of (numbers_of before) (length before + 1) line) (first_fault (before ++ line ∷ []) lines)

-- the numbers, or the fault if there is one
abbrev pub unless_faulty : Option EventError → List ℕ → Result (List ℕ) EventError
unless_faulty None numbers = Ok numbers
unless_faulty (Some fault) numbers = Err fault

-- the cycles that a file names, or its first fault
abbrev pub requests_of : List ℕ → Result (List ℕ) EventError
requests_of bytes = unless_faulty (first_fault [] (lines_of bytes)) (numbers_of (lines_of bytes))

-- whether a request comes in the cycle
abbrev pub is_wanted : List ℕ → ℕ → Bool
is_wanted cycles cycle = list_any (λ c. c == cycle) cycles
