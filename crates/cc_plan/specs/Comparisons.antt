-- What a comparison says of the words that registers hold.
use Rattle.std.specs.Prelude.{ℕ, cond, ◌==◌}
use Rattle.cc_lines.specs.declared.instruction.Condition.{Condition}
use Rattle.cc_lines.specs.declared.instruction.Condition.TheVariants.{Equal, NotEqual, Less, Lower}
use Rattle.cc_lines.specs.declared.instruction.Operation.{Operation}
use Rattle.cc_lines.specs.declared.instruction.Operation.TheVariants.{Lower as LowerOperation}
use Rattle.cc_lines.specs.declared.instruction.Register.{Register as GeneralRegister}
use Rattle.cc_lines.specs.declared.instruction.Source.{Source}
use Rattle.cc_lines.specs.declared.instruction.Source.TheVariants.{Register, Number}
use Rattle.cc_plan.specs.declared.plan.Comparison.{Comparison}

-- the second operand, where each register holds its word
abbrev pub value_of : (ℕ → ℕ) → Source → ℕ
value_of words (Register register) = words register.0
value_of words (Number number) = number

-- sltu and sltiu compare without signs, slt and slti with them
abbrev pub asked_by : Operation → Condition
asked_by LowerOperation = Lower
asked_by _ = Less

abbrev pub comparison : Condition → GeneralRegister → Source → Comparison
comparison condition rs second = record { condition = condition; rs = rs; second = second }

abbrev pub zero : Source
zero = Register (record { 0 = 0 })

-- without signs, a word is below 1 where it is 0, and 0 is below it where it is not
abbrev pub tested_lower : GeneralRegister → Source → Comparison
tested_lower rs (Number number) = cond (number == 1) (comparison Equal rs zero) (comparison Lower rs (Number number))
tested_lower rs (Register rt) = cond (rs.0 == 0) (comparison NotEqual rt zero) (comparison Lower rs (Register rt))

-- the comparison that is made
abbrev pub tested : Operation → GeneralRegister → Source → Comparison
tested LowerOperation rs second = tested_lower rs second
tested _ rs second = comparison Less rs second
