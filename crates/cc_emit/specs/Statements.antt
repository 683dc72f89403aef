-- The text of a statement: its mnemonic and its operands.
use Rattle.std.specs.Prelude.{ℕ, List, ◌++◌, codes, decimal}
use Rattle.std.specs.Fmt.{signed_decimal}
use Rattle.std.specs.List.{flat_map}
use Rattle.cc_lines.specs.declared.instruction.Condition.{Condition}
use Rattle.cc_lines.specs.declared.instruction.Condition.TheVariants.{Equal, NotEqual, Less, NotLess, Greater, NotGreater, Lower, NotLower, Higher, NotHigher}
use Rattle.cc_lines.specs.declared.instruction.Shift.{Shift}
use Rattle.cc_lines.specs.declared.instruction.Shift.TheVariants.{Left, Right, Arithmetic, Rotate}
use Rattle.cc_program.specs.declared.symbols.Symbol.{Symbol}
use Rattle.cc_emit.specs.declared.line.Computed.{Computed}
use Rattle.cc_emit.specs.declared.line.Computed.TheVariants.{Add, Sub, And, Or, Xor, Bic, Rotlb}
use Rattle.cc_emit.specs.declared.line.Word.{Word}
use Rattle.cc_emit.specs.declared.line.Word.TheVariants.{Number, End, Stack, Shifts, Mask}
use Rattle.cc_emit.specs.declared.line.Target.{Target}
use Rattle.cc_emit.specs.declared.line.Target.TheVariants.{Symbol as SymbolTarget, Routine, Shifted, Skip}
use Rattle.cc_emit.specs.declared.operand.Operand.{Operand}
use Rattle.cc_emit.specs.declared.operand.Operand.TheVariants.{Register, Immediate, Count, Memory, Held, Place}
use Rattle.cc_emit.specs.Labels.{routine_label, mask_label}
use Rattle.cc_emit.specs.Names.{symbol_text}

-- the label of a shift's table
abbrev pub shift_label : Shift → List ℕ
shift_label Left = codes "t.sll"
shift_label Right = codes "t.srl"
shift_label Arithmetic = codes "t.sra"
shift_label Rotate = codes "t.rol"

-- the label of a word that the translation adds
abbrev pub word_label : Word → List ℕ
word_label (Number n) = codes "k." ++ decimal n
word_label (End addend) = codes "k.end." ++ decimal addend
word_label Stack = codes "k.stack"
word_label (Shifts op) = shift_label op
word_label (Mask mask) = mask_label mask

-- the label of a place of the code
abbrev pub target_label : List Symbol → Target → List ℕ
target_label symbols (SymbolTarget number) = symbol_text symbols number
target_label symbols (Routine routine) = routine_label routine
target_label symbols (Shifted routine count) = routine_label routine ++ codes ".n" ++ decimal count
target_label symbols (Skip number) = codes "_.s" ++ decimal number

abbrev pub register : ℕ → List ℕ
register r = codes "r" ++ decimal r

abbrev pub operand_text : List Symbol → Operand → List ℕ
operand_text symbols (Register r) = register r
operand_text symbols (Immediate z) = codes "#" ++ signed_decimal z
operand_text symbols (Count n) = codes "#" ++ decimal n
operand_text symbols (Memory words base) = signed_decimal words ++ codes "[" ++ register base ++ codes "]"
operand_text symbols (Held word base) = word_label word ++ codes "[" ++ register base ++ codes "]"
operand_text symbols (Place target) = target_label symbols target

-- a statement: eight blanks, a mnemonic, a blank, and operands between commas
abbrev pub spelled : List Symbol → List ℕ → Operand → List Operand → List ℕ
spelled symbols mnemonic first rest =
    codes "        " ++ mnemonic ++ codes " " ++ operand_text symbols first
    ++ flat_map (λ one. codes "," ++ operand_text symbols one) rest ++ codes "\n"

abbrev pub computed_text : Computed → List ℕ
computed_text Add = codes "add"
computed_text Sub = codes "sub"
computed_text And = codes "and"
computed_text Or = codes "or"
computed_text Xor = codes "xor"
computed_text Bic = codes "bic"
computed_text Rotlb = codes "rotlb"

abbrev pub condition_text : Condition → List ℕ
condition_text Equal = codes "beq"
condition_text NotEqual = codes "bne"
condition_text Less = codes "blt"
condition_text NotLess = codes "bge"
condition_text Greater = codes "bgt"
condition_text NotGreater = codes "ble"
condition_text Lower = codes "blo"
condition_text NotLower = codes "bhs"
condition_text Higher = codes "bhi"
condition_text NotHigher = codes "blos"
