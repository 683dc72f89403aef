-- The instructions that operations on registers become.
use Rattle.std.specs.Prelude.{ℕ, ◌+◌, ◌-◌, ◌%◌, ◌^◌, min, Bool, true, false, cond, ◌&&◌, ◌||◌, ◌==◌, List, [], ◌∷◌, length, map}
use Rattle.cc_lines.specs.declared.instruction.Operation.{Operation}
use Rattle.cc_lines.specs.declared.instruction.Operation.TheVariants as op
use Rattle.cc_lines.specs.declared.instruction.Shift.{Shift}
use Rattle.cc_lines.specs.declared.instruction.Shift.TheVariants.{Left, Right, Arithmetic, Rotate}
use Rattle.cc_emit.specs.declared.line.Computed.{Computed}
use Rattle.cc_emit.specs.declared.line.Computed.TheVariants.{Add, Sub, And, Or, Xor}
use Rattle.cc_emit.specs.declared.line.Line.{Line}
use Rattle.cc_emit.specs.declared.line.Line.TheVariants.{Plain as PlainLine}
use Rattle.cc_emit.specs.declared.line.Plain.{Plain}
use Rattle.cc_emit.specs.declared.line.Plain.TheVariants.{Compute, Move, Not, Asr, Sh}

abbrev pub lines : List Plain → List Line
lines code = map PlainLine code

-- how many statements there are after these, as far as 32 bits hold it
abbrev pub counted : ℕ → List Plain → ℕ
counted before [] = before
counted before (plain ∷ rest) = min (before + length (plain ∷ rest)) (2 ^ 32 - 1)

-- a copy to another register than r0
abbrev pub copied : ℕ → ℕ → List Plain
copied rs rd = cond (rs == rd || rd == 0) [] (Move rs rd ∷ [])

abbrev pub complemented : ℕ → ℕ → List Plain
complemented rs rd = Not rs rd ∷ []

-- the complement of a disjunction, which is one of a register where the other is r0
abbrev pub nor : ℕ → ℕ → ℕ → List Plain
nor rd rs rt =
    cond (rt == 0) (complemented rs rd) (cond (rs == 0) (complemented rt rd) (Compute Or rs rt rd ∷ complemented rd rd))

-- the instruction that has an operation's name
abbrev pub computed : Operation → Computed
computed op.Sub = Sub
computed op.And = And
computed op.Or = Or
computed op.Xor = Xor
computed _ = Add

-- 0 as the second operand leaves the first
abbrev pub keeps_first : Operation → Bool
keeps_first op.Add = true
keeps_first op.Sub = true
keeps_first op.Or = true
keeps_first op.Xor = true
keeps_first _ = false

abbrev pub is_copy : Operation → ℕ → Bool
is_copy o rt = rt == 0 && keeps_first o

-- an operation that does not compare, on rs and rt
abbrev pub operated : Operation → ℕ → ℕ → ℕ → List Plain
operated op.Nor rd rs rt = nor rd rs rt
operated o rd rs rt = cond (is_copy o rt) (copied rs rd) (Compute (computed o) rs rt rd ∷ [])

-- a shift by 1 to 31: a double word is shifted right, which has rs in one half or in both
abbrev pub shift : Shift → ℕ → ℕ → ℕ → Plain
shift Left rd rs n = Sh 0 rs (32 - n) rd
shift Right rd rs n = Sh rs 0 n rd
shift Arithmetic rd rs n = Asr rs n rd
shift Rotate rd rs n = Sh rs rs (32 - n) rd

abbrev pub shifted : Shift → ℕ → ℕ → ℕ → List Plain
shifted s rd rs count = cond (count % 32 == 0) (copied rs rd) (shift s rd rs (count % 32) ∷ [])
