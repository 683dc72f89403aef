-- What lines of a translation add to what is counted and kept besides them.
use Rattle.std.specs.Prelude.{ℕ, ◌+◌, ◌-◌, ◌^◌, min, cond, nat_eq, List, [], ◌∷◌}
use Rattle.std.specs.Int.{w32, cast_signed}
use Rattle.indexmap.specs.IndexSet.{insert_key}
use Rattle.cc_emit.specs.declared.line.Line.{Line}
use Rattle.cc_emit.specs.declared.line.Line.TheVariants.{Constant, Mark}
use Rattle.cc_emit.specs.declared.line.Target.TheVariants.{Skip}
use Rattle.cc_emit.specs.Lines.{is_statement, is_short}

-- how many statements there are after a line, as far as 32 bits hold it
abbrev pub with_statement : ℕ → Line → ℕ
with_statement count line = cond (is_statement line) (min (count + 1) (2 ^ 32 - 1)) count

abbrev pub statements_after : ℕ → List Line → ℕ
statements_after count [] = count
statements_after count (line ∷ rest) = statements_after (with_statement count line) rest

-- a word of data holds each number that no instruction holds
abbrev pub with_number : List ℕ → Line → List ℕ
with_number numbers (Constant value rd) = cond (is_short (cast_signed w32 value)) numbers (insert_key nat_eq numbers value)
with_number numbers _ = numbers

abbrev pub numbers_after : List ℕ → List Line → List ℕ
numbers_after numbers [] = numbers
numbers_after numbers (line ∷ rest) = numbers_after (with_number numbers line) rest

-- the number of the last place that a branch over lines goes to
abbrev pub with_place : ℕ → Line → ℕ
with_place last (Mark (Skip place)) = place
with_place last _ = last

abbrev pub places_after : ℕ → List Line → ℕ
places_after last [] = last
places_after last (line ∷ rest) = places_after (with_place last line) rest

-- the number of the next one
abbrev pub next_place : ℕ → ℕ
next_place last = min (last + 1) (2 ^ 32 - 1)
