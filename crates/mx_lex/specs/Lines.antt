-- The lines of a text.
use Rattle.std.specs.Prelude.{ℕ, suc, ◌-◌, ◌==◌, List, [], ◌∷◌, length, take, map, slice_index, if◌then◌else◌}

-- a byte at the front of the first line
abbrev pub onto_first : ℕ → List (List ℕ) → List (List ℕ)
onto_first b [] = (b ∷ []) ∷ []
onto_first b (line ∷ lines) = (b ∷ line) ∷ lines

-- what stands before each LF, and what follows the last LF where it is not empty
abbrev pub pieces : List ℕ → List (List ℕ)
pieces [] = []
pieces (b ∷ bytes) = if b == 10 then [] ∷ pieces bytes else onto_first b (pieces bytes)

-- how many bytes stand before the first LF
abbrev pub line_len : List ℕ → ℕ
line_len [] = 0
line_len (b ∷ bytes) = if b == 10 then 0 else suc (line_len bytes)

-- a CR at the end is dropped
abbrev pub without_return : List ℕ → List ℕ
without_return line = if slice_index line (length line - 1) == 13 then take (length line - 1) line else line

-- the lines of a text
unfoldable pub lines_of : List ℕ → List (List ℕ)
lines_of text = map without_return (pieces text)
