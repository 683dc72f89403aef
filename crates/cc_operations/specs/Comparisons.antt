-- The instructions that comparisons with a number become: they leave the answer in bit 31 of a register, and shift it to rd.
use Rattle.std.specs.Prelude.{ℕ, ℤ, negsuc, ◌-◌, ◌%◌, ◌^◌, cond, nat_lt, List, [], ◌∷◌, Option, Some, None}
use Rattle.std.specs.Int.{w32, cast_signed}
use Rattle.cc_lines.specs.declared.instruction.Condition.{Condition}
use Rattle.cc_lines.specs.declared.instruction.Condition.TheVariants.{Less, Lower}
use Rattle.cc_emit.specs.declared.line.Computed.{Computed}
use Rattle.cc_emit.specs.declared.line.Computed.TheVariants.{Sub, And, Or, Bic}
use Rattle.cc_emit.specs.declared.line.Plain.{Plain}
use Rattle.cc_emit.specs.declared.line.Plain.TheVariants.{Compute, Addi, Sh}
use Rattle.cc_emit.specs.Lines.{is_short}
use Rattle.cc_operations.specs.declared.between.TheConstants.{SECOND}

-- bit 31 of register a
abbrev pub negative : ℕ → ℕ → List Plain
negative a rd = Sh a 0 31 rd ∷ []

-- only 0 has no bit 31 where the number below has one
abbrev pub zero : ℕ → ℕ → List Plain
zero a rd = Addi a (negsuc 0) SECOND ∷ Compute Bic SECOND a SECOND ∷ negative SECOND rd

-- only 0 has no bit 31 and neither has its negation
abbrev pub not_zero : ℕ → ℕ → List Plain
not_zero a rd = Compute Sub 0 a SECOND ∷ Compute Or SECOND a SECOND ∷ negative SECOND rd

-- the negation of a number, with its sign
abbrev pub negated : ℕ → ℤ
negated value = cast_signed w32 ((2 ^ 32 - value) % 2 ^ 32)

-- the difference, with its bit 31 corrected by that of register a
abbrev pub below : Computed → ℕ → ℕ → ℕ → List Plain
below signs a value rd = Addi a (negated value) SECOND ∷ Compute signs SECOND a SECOND ∷ negative SECOND rd

-- what corrects the difference: with signs by the number's sign, without signs only for numbers below 2 ^ 31
abbrev pub correction : Condition → ℕ → Option Computed
correction Less value = cond (nat_lt value (2 ^ 31)) (Some Or) (Some And)
correction Lower value = cond (nat_lt value (2 ^ 31)) (Some Bic) None
correction _ value = None

abbrev pub signs_of : Condition → ℕ → Option Computed
signs_of condition value = cond (is_short (negated value)) (correction condition value) None
