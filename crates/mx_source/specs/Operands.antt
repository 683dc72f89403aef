-- The texts of operands.
use Rattle.std.specs.Prelude.{ℕ, List, codes, decimal}
use Rattle.mx_source.specs.declared.text.Operand.{Operand}
use Rattle.mx_source.specs.declared.text.Operand.TheVariants.{Register, Immediate, Count, Memory, Md, Name, Word}
use Rattle.mx_source.specs.Printed.{register, immediate, count, memory}

-- the text of an operand
abbrev pub operand_text : Operand → List ℕ
operand_text (Register r) = register r
operand_text (Immediate z) = immediate z
operand_text (Count n) = count n
operand_text (Memory offset base) = memory offset base
operand_text Md = codes "md"
operand_text (Name bytes) = bytes.now
operand_text (Word n) = decimal n
