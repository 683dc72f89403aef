-- Lines of C that lines of a source were made from, and lines of texts.
use Rattle.std.specs.Prelude.{ℕ, zero, suc, ◌-◌, ◌&&◌, ◌==◌, cond, eqb, nat_eq, List, [], ◌∷◌, length, take, Option, Some, None, slice_get}
use Rattle.std.specs.List.{ends_with, slice_split}
use Rattle.lab_positions.specs.declared.positions.Position.{Position}

-- a text without the end of its last line
abbrev pub lines_of : List ℕ → List ℕ
lines_of text = cond (ends_with nat_eq text (10 ∷ [])) (take (length text - 1) text) text

abbrev pub known : Option (Option Position) → Option Position
known (Some position) = position
known None = None

-- the line of C of a line of a source, the first of which is line 1
abbrev pub position_of : List (Option Position) → ℕ → Option Position
position_of lines zero = None
position_of lines (suc n) = known (slice_get lines n)

-- the name of a line of C in a comment line `; FILE:LINE`
abbrev pub name_in : List ℕ → Option (List ℕ)
name_in (mark ∷ blank ∷ name) = cond (mark == 59 && blank == 32) (Some name) None
name_in _ = None

-- the lines of a text
abbrev pub lines_in : List ℕ → List (List ℕ)
lines_in text = slice_split (λ byte. eqb byte 10) (lines_of text)
