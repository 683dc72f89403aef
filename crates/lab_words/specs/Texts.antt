-- The text of an instruction that stands at an address. What it has in common with the canonical text of sources is defined there.
use Rattle.std.specs.Prelude.{ℕ, ◌+◌, ◌-◌, ◌^◌, ◌%◌, ℤ, pos, negsuc, Bool, true, false, List, [], ◌∷◌, ◌++◌, Option, Some, None, codes, decimal, encode_utf8_all, if◌then◌else◌, ◌==◌, ◌&&◌}
use Rattle.std.specs.Fmt.{digits, signed_decimal}
use Rattle.std.specs.Int.{w32, cast_unsigned}
use Rattle.mx_isa.specs.declared.inst.Special.{Special}
use Rattle.mx_isa.specs.declared.inst.Special.TheVariants.{Md, Pc1, Pc2, Pc3}
use Rattle.mx_isa.specs.declared.inst.Inst.{Inst}
use Rattle.mx_isa.specs.declared.inst.Inst.TheVariants.{Load, Store, Branch, Compute, Addi, MoveFrom, MoveTo, Jspci, Jpc, Jpcrs, Halt}
use Rattle.mx_source.specs.Printed.{register, immediate, spelled, compute_text, condition_text}
use Rattle.lab_words.specs.Naming.{Naming, aimed}

abbrev pub special_text : Special → List ℕ
special_text Md = codes "md"
special_text Pc1 = codes "pc1"
special_text Pc2 = codes "pc2"
special_text Pc3 = codes "pc3"

-- a name as a text: each byte is a character
abbrev pub name_text : List ℕ → List ℕ
name_text name = encode_utf8_all name

-- a name, or a number where there is none
abbrev pub or_number : Option (List ℕ) → ℤ → List ℕ
or_number None number = signed_decimal number
or_number (Some name) number = name_text name

-- a name with what stands behind it, or another text where there is none
abbrev pub or_else : Option (List ℕ) → List ℕ → List ℕ → List ℕ
or_else None behind other = other
or_else (Some name) behind other = name_text name ++ behind

-- how far a place is behind a label
abbrev pub behind_text : ℕ → List ℕ
behind_text behind = if behind == 0 then [] else codes "+" ++ decimal behind

-- A place of code: its label; or else the label of the word before it or of the one before that, and how far it is behind; or else its
-- address, in hexadecimal. The first statements behind a label may stand in the slots of a branch to it, which then goes on behind them.
abbrev pub place_text : Naming → ℕ → List ℕ
place_text names a =
    or_else (names.code a) []
    (or_else (names.code (a - 1)) (codes "+1") (or_else (names.code (a - 2)) (codes "+2") (codes "0x" ++ digits 16 false a)))

-- the address to which a branch at an address leads
abbrev pub target : ℕ → ℤ → ℕ
target address by = (address + cast_unsigned w32 by) % 2 ^ 32

-- the label of the data word at an offset from 0
abbrev pub data_label : Naming → ℤ → Option (List ℕ)
data_label names (pos a) = names.user_data a
data_label names (negsuc n) = None

abbrev pub memory_text : Naming → ℤ → ℕ → List ℕ
memory_text names offset base = or_number (data_label names offset) offset ++ codes "[" ++ register base ++ codes "]"

abbrev pub is_zero : ℤ → Bool
is_zero (pos n) = n == 0
is_zero (negsuc n) = false

-- a jump to the address in a register, which leaves the address of the word that it comes back to, or leaves none
abbrev pub register_jump_text : ℕ → ℕ → List ℕ
register_jump_text a dest =
    if dest == 0 then spelled (codes "jr") (register a ∷ []) else spelled (codes "callr") (register a ∷ register dest ∷ [])

-- a jump to an address in a register, to an address alone, or to one behind that in a register
abbrev pub jump_text : Naming → ℕ → ℕ → ℤ → List ℕ
jump_text names a dest imm =
    if is_zero imm then register_jump_text a dest
    else (if a == 0 then spelled (codes "call") (place_text names (target 0 imm) ∷ register dest ∷ [])
    else spelled (codes "jspci") (register a ∷ immediate imm ∷ register dest ∷ []))

-- the label of the place whose address a sum with r0 makes, where its statement is about that place
abbrev pub made_label : Naming → Option ℕ → ℕ → ℤ → Option (List ℕ)
made_label names None a imm = None
made_label names (Some at) a imm = if a == 0 && at == target 0 imm then names.code at else None

-- the address of a place in a register, or else a sum
abbrev pub sum_text : Option (List ℕ) → ℕ → ℕ → ℤ → List ℕ
sum_text None a dest imm = spelled (codes "addi") (register a ∷ immediate imm ∷ register dest ∷ [])
sum_text (Some name) a dest imm = spelled (codes "la") (name_text name ∷ register dest ∷ [])

-- a branch that cancels the two words after it where it does not hold
abbrev pub squash_text : Bool → List ℕ
squash_text true = codes "sq"
squash_text false = []

-- with the aim of the statement that the word comes from, where that is known
abbrev pub instruction_text : Naming → Option ℕ → ℕ → Inst → List ℕ
instruction_text names aim address (Load base dest offset) = spelled (codes "ld") (memory_text names offset base ∷ register dest ∷ [])
instruction_text names aim address (Store base value offset) = spelled (codes "st") (memory_text names offset base ∷ register value ∷ [])
instruction_text names aim address (Branch a b condition squash by) =
    spelled (condition_text condition ++ squash_text squash) (register a ∷ register b ∷ place_text (aimed aim names) (target address by) ∷ [])
instruction_text names aim address (Compute a dest b op) = compute_text op a b dest
instruction_text names aim address (Addi a dest imm) = sum_text (made_label names aim a imm) a dest imm
instruction_text names aim address (MoveFrom dest special) = spelled (codes "movfrs") (special_text special ∷ register dest ∷ [])
instruction_text names aim address (MoveTo a special) = spelled (codes "movtos") (register a ∷ special_text special ∷ [])
instruction_text names aim address (Jspci a dest imm) = jump_text (aimed aim names) a dest imm
instruction_text names aim address Jpc = codes "jpc"
instruction_text names aim address Jpcrs = codes "jpcrs"
instruction_text names aim address Halt = codes "halt"
