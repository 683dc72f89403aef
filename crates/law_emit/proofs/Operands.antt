-- The operands of a statement as they are printed.
use Rattle.std.specs.Prelude.{ℕ, ℤ, List, ◌++◌, codes, decimal}
use Rattle.std.specs.Fmt.{signed_decimal}
use Rattle.std.specs.List.{flat_map}
use Rattle.cc_program.specs.declared.symbols.Symbol.{Symbol}
use Rattle.cc_emit.specs.declared.line.Word.{Word}
use Rattle.cc_emit.specs.declared.line.Target.{Target}
use Rattle.cc_emit.specs.Statements.{register, word_label, target_label}

pub data Operand : Type 0 where
  Register : ℕ → Operand
  Immediate : ℤ → Operand
  Count : ℕ → Operand
  Memory : ℤ → ℕ → Operand
  Held : Word → ℕ → Operand
  Place : Target → Operand

abbrev pub operand_text : List Symbol → Operand → List ℕ
operand_text symbols (Register r) = register r
operand_text symbols (Immediate z) = codes "#" ++ signed_decimal z
operand_text symbols (Count n) = codes "#" ++ decimal n
operand_text symbols (Memory words base) = signed_decimal words ++ codes "[" ++ register base ++ codes "]"
operand_text symbols (Held word base) = word_label word ++ codes "[" ++ register base ++ codes "]"
operand_text symbols (Place target) = target_label symbols target

abbrev pub spelled : List Symbol → List ℕ → Operand → List Operand → List ℕ
spelled symbols mnemonic first rest =
    codes "        " ++ mnemonic ++ codes " " ++ operand_text symbols first
    ++ flat_map (λ one. codes "," ++ operand_text symbols one) rest ++ codes "\n"
