-- The lines that operations on a register and a second operand become.
use Rattle.std.specs.Prelude.{ℕ, ◌-◌, ◌%◌, ◌^◌, Bool, cond, ◌||◌, ◌==◌, List, [], ◌∷◌, ◌++◌, Option, Some, None}
use Rattle.std.specs.Option.{option_or, option_map}
use Rattle.cc_lines.specs.declared.instruction.Condition.{Condition}
use Rattle.cc_lines.specs.declared.instruction.Condition.TheVariants.{Equal, NotEqual, Less}
use Rattle.cc_lines.specs.declared.instruction.Operation.{Operation}
use Rattle.cc_lines.specs.declared.instruction.Operation.TheVariants as op
use Rattle.cc_lines.specs.declared.instruction.Register.{Register}
use Rattle.cc_lines.specs.declared.instruction.Source.{Source}
use Rattle.cc_lines.specs.declared.instruction.Source.TheVariants as source
use Rattle.cc_emit.specs.declared.line.Line.{Line}
use Rattle.cc_emit.specs.declared.line.Line.TheVariants.{Constant, Mark, Plain as PlainLine, Transfer as TransferLine}
use Rattle.cc_emit.specs.declared.line.Plain.{Plain}
use Rattle.cc_emit.specs.declared.line.Plain.TheVariants.{Move}
use Rattle.cc_emit.specs.declared.line.Target.TheVariants.{Skip}
use Rattle.cc_emit.specs.declared.line.Transfer.TheVariants.{Branch}
use Rattle.cc_plan.specs.declared.plan.Comparison.{Comparison}
use Rattle.cc_plan.specs.Comparisons.{tested}
use Rattle.cc_operations.specs.declared.between.TheConstants.{FIRST, SECOND}
use Rattle.cc_operations.specs.Operations.{lines, copied, operated}
use Rattle.cc_operations.specs.Comparisons.{negative, zero, not_zero, below, signs_of}
use Rattle.cc_operations.specs.Numbers.{Put, instructions, followed_by, constant, added}

-- a second operand that is a number is put into r1
abbrev pub operand : Option ℕ → Source → Put
operand first (source.Register r) = instructions first []
operand first (source.Number n) = cond (n == 0) (instructions first []) (constant first n FIRST)

abbrev pub operand_register : Source → ℕ
operand_register (source.Register r) = r.0
operand_register (source.Number n) = cond (n == 0) 0 FIRST

-- ---- comparisons

-- 1, unless a branch over the next line is not taken: then 0
abbrev pub set_over : ℕ → Condition → ℕ → ℕ → ℕ → List Line
set_over place condition a b rd =
    Constant 1 rd ∷ TransferLine (Branch condition a b (Skip place)) ∷ PlainLine (Move 0 rd) ∷ Mark (Skip place) ∷ []

-- the register that takes 1 before the branch reads a and b: r26 where rd is one of them
abbrev pub answer : ℕ → ℕ → ℕ → ℕ
answer rd a b = cond (rd == a || rd == b) SECOND rd

abbrev pub branched : ℕ → Condition → ℕ → ℕ → ℕ → List Line
branched place condition a b rd = set_over place condition a b (answer rd a b) ++ lines (copied (answer rd a b) rd)

abbrev pub by_branch : ℕ → Option ℕ → ℕ → Comparison → Put
by_branch place first rd found =
    followed_by (operand first found.second) (branched place found.condition found.rs.0 (operand_register found.second) rd)

-- the instructions of a comparison that needs no branch: with a number
abbrev pub with_number : Condition → ℕ → ℕ → Source → Option (List Plain)
with_number condition a rd (source.Register r) = None
with_number condition a rd (source.Number n) = option_map (λ signs. below signs a n rd) (signs_of condition n)

-- and with 0
abbrev pub with_zero : Condition → ℕ → ℕ → Option (List Plain)
with_zero Less a rd = Some (negative a rd)
with_zero Equal a rd = Some (zero a rd)
with_zero NotEqual a rd = Some (not_zero a rd)
with_zero _ a rd = None

abbrev pub is_zero : Source → Bool
is_zero (source.Register r) = r.0 == 0
is_zero (source.Number n) = n == 0

abbrev pub or_branch : Option (List Plain) → ℕ → Option ℕ → ℕ → Comparison → Put
or_branch (Some code) place first rd found = instructions first code
or_branch None place first rd found = by_branch place first rd found

abbrev pub against : ℕ → Option ℕ → ℕ → Comparison → Put
against place first rd found = or_branch (with_number found.condition found.rs.0 rd found.second) place first rd found

-- 1 where a comparison holds, else 0
abbrev pub set : ℕ → Option ℕ → ℕ → Comparison → Put
set place first rd found =
    cond (is_zero found.second)
    (or_branch (option_or (with_zero found.condition found.rs.0 rd) (with_number found.condition found.rs.0 rd found.second)) place first rd found)
    (against place first rd found)

-- ---- operations

abbrev pub operands : Option ℕ → Operation → ℕ → ℕ → Source → Put
operands first o rd rs second = followed_by (operand first second) (lines (operated o rd rs (operand_register second)))

-- 0 and a number: the number
abbrev pub joined : Option ℕ → Operation → ℕ → ℕ → ℕ → Put
joined first o rd rs n = cond (rs == 0) (constant first n rd) (operands first o rd rs (source.Number n))

-- any operation; a number is subtracted by adding its negation
abbrev pub computed : ℕ → Option ℕ → Operation → ℕ → Register → Source → Put
computed place first op.Less rd rs second = set place first rd (tested op.Less rs second)
computed place first op.Lower rd rs second = set place first rd (tested op.Lower rs second)
computed place first op.Add rd rs (source.Number n) = added first rs.0 n rd
computed place first op.Sub rd rs (source.Number n) = added first rs.0 ((2 ^ 32 - n) % 2 ^ 32) rd
computed place first op.Or rd rs (source.Number n) = joined first op.Or rd rs.0 n
computed place first op.Xor rd rs (source.Number n) = joined first op.Xor rd rs.0 n
computed place first o rd rs second = operands first o rd rs.0 second
