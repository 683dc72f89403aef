-- The handler in assembly language.
use Rattle.std.specs.Prelude.{ℕ, List, [], ◌∷◌, Option, codes, option_map}
use Rattle.mx_isa.specs.declared.inst.Special.{Special}
use Rattle.mx_isa.specs.declared.inst.Special.TheVariants.{Md, Pc1, Pc2, Pc3}
use Rattle.mx_isa.specs.declared.inst.Inst.{Inst}
use Rattle.mx_isa.specs.declared.inst.Inst.TheVariants.{MoveFrom, MoveTo, Jpc, Jpcrs}
use Rattle.mx_code.specs.Decoding.{inst_of}
use Rattle.mx_source.specs.Printed.{register, spelled, instruction_text}

abbrev pub special_text : Special → List ℕ
special_text Md = codes "md"
special_text Pc1 = codes "pc1"
special_text Pc2 = codes "pc2"
special_text Pc3 = codes "pc3"

-- the canonical text of an instruction, also of the system's own; a branch, a jump and a halt have none here
abbrev pub text_of : Inst → List ℕ
text_of (MoveFrom dest special) = spelled (codes "movfrs") (special_text special ∷ register dest ∷ [])
text_of (MoveTo a special) = spelled (codes "movtos") (register a ∷ special_text special ∷ [])
text_of Jpc = codes "jpc"
text_of Jpcrs = codes "jpcrs"
text_of inst = instruction_text inst

-- the text of the instruction that a word spells, if it spells one
abbrev pub text_of_word : ℕ → Option (List ℕ)
text_of_word word = option_map text_of (inst_of word)
