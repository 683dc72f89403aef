-- The lines that put numbers into registers, and add them.
use Rattle.std.specs.Prelude.{ℕ, Bool, cond, ◌&&◌, ◌||◌, ◌==◌, nat_eq, List, [], ◌∷◌, ◌++◌, Option, Some, None}
use Rattle.std.specs.Option.{option_eq}
use Rattle.std.specs.Int.{w32, cast_signed}
use Rattle.cc_emit.specs.declared.line.Computed.TheVariants.{Add}
use Rattle.cc_emit.specs.declared.line.Line.{Line}
use Rattle.cc_emit.specs.declared.line.Line.TheVariants.{Constant}
use Rattle.cc_emit.specs.declared.line.Plain.{Plain}
use Rattle.cc_emit.specs.declared.line.Plain.TheVariants.{Compute, Addi}
use Rattle.cc_emit.specs.Lines.{is_short}
use Rattle.cc_operations.specs.declared.between.TheConstants.{FIRST}
use Rattle.cc_operations.specs.Operations.{lines}

-- lines, and the number that r1 is known to hold after them
pub record Put : Type 0 where
  pub lines : List Line
  pub first : Option ℕ

-- instructions that leave r1
abbrev pub instructions : Option ℕ → List Plain → Put
instructions first code = record { lines = lines code; first = first }

-- lines after others, which leave r1
abbrev pub followed_by : Put → List Line → Put
followed_by put rest = record { lines = put.lines ++ rest; first = put.first }

-- r1 is known to hold the number already
abbrev pub is_held : Option ℕ → ℕ → ℕ → Bool
is_held first value rd = rd == FIRST && option_eq nat_eq first (Some value)

-- a number is put into rd, unless that is r1 and holds it
abbrev pub constant : Option ℕ → ℕ → ℕ → Put
constant first value rd = record {
  lines = cond (is_held first value rd) [] (Constant value rd ∷ []);
  first = cond (rd == FIRST) (Some value) first;
}

-- the register that takes a long number to be added to rs: rd, unless that is rs or r0
abbrev pub addend : ℕ → ℕ → ℕ
addend rs rd = cond (rd == rs || rd == 0) FIRST rd

abbrev pub long_sum : Option ℕ → ℕ → ℕ → ℕ → Put
long_sum first rs value rd = followed_by (constant first value (addend rs rd)) (lines (Compute Add rs (addend rs rd) rd ∷ []))

abbrev pub sum : Option ℕ → ℕ → ℕ → ℕ → Put
sum first rs value rd =
    cond (is_short (cast_signed w32 value)) (instructions first (Addi rs (cast_signed w32 value) rd ∷ [])) (long_sum first rs value rd)

-- a number is added to rs: r0 gives the number itself, and a sum in r1 is no known number
abbrev pub added : Option ℕ → ℕ → ℕ → ℕ → Put
added first rs value rd =
    cond (rs == 0) (constant first value rd)
    (record { lines = (sum first rs value rd).lines; first = cond (rd == FIRST) None (sum first rs value rd).first })
