-- What is asked of an instruction.
use Rattle.std.specs.Prelude.{ℕ, Bool, true, false}
use Rattle.cc_lines.specs.declared.instruction.Operation.{Operation}
use Rattle.cc_lines.specs.declared.instruction.Operation.TheVariants.{Less, Lower}
use Rattle.cc_lines.specs.declared.instruction.Special.{Special}
use Rattle.cc_lines.specs.declared.instruction.Special.TheVariants.{Lo, Hi}
use Rattle.cc_lines.specs.declared.instruction.Instruction.{Instruction}
use Rattle.cc_lines.specs.declared.instruction.Instruction.TheVariants.{Branch, Jump, Call, Break}

-- the register that stands for LO or HI
abbrev pub register_of : Special → ℕ
register_of Lo = 24
register_of Hi = 25

-- it gives 1 or 0
abbrev pub is_comparison : Operation → Bool
is_comparison Less = true
is_comparison Lower = true
is_comparison _ = false

-- nothing behind it follows on it
abbrev pub is_last : Instruction → Bool
is_last (Jump to) = true
is_last (Break code) = true
is_last _ = false

-- MIPS-I has a delay slot behind it
abbrev pub has_slot : Instruction → Bool
has_slot (Branch condition rs second) = true
has_slot (Jump to) = true
has_slot (Call to) = true
has_slot _ = false
