-- The canonical text of a source.
use Rattle.std.specs.Prelude.{ℕ, suc, ℤ, Bool, true, false, cond, ◌||◌, List, [], ◌∷◌, ◌++◌, Option, Some, None, codes, decimal, find, unwrap_or, option_map}
use Rattle.std.specs.Fmt.{signed_decimal}
use Rattle.std.specs.List.{list_any, flat_map, join_with_byte}
use Rattle.mx_isa.specs.declared.board.TheConstants.{DATA_BASE}
use Rattle.mx_isa.specs.declared.inst.Op.{Op}
use Rattle.mx_isa.specs.declared.inst.Op.TheVariants.{Add, Sub, Subnc, And, Or, Xor, Bic, Not, Rotlb, Mstart, Mstep, Dstep, Asr, Sh}
use Rattle.mx_isa.specs.declared.inst.Cond.{Cond}
use Rattle.mx_isa.specs.declared.inst.Cond.TheVariants.{Eq, Ne, Lt, Ge, Lo, Hs}
use Rattle.mx_isa.specs.declared.inst.Inst.{Inst}
use Rattle.mx_isa.specs.declared.inst.Inst.TheVariants.{Load, Store, Compute, Addi, MoveFrom, MoveTo}
use Rattle.mx_source.specs.declared.statement.Value.{Value}
use Rattle.mx_source.specs.declared.statement.Value.TheVariants.{Int, Code}
use Rattle.mx_source.specs.declared.statement.Label.{Label}
use Rattle.mx_source.specs.declared.statement.Statement.{Statement}
use Rattle.mx_source.specs.declared.statement.Statement.TheVariants.{Plain, LaCode, Branch, Call, CallReg, JumpReg, Halt}
use Rattle.mx_source.specs.Labels.{names_index, names_address, is_data_label}
use Rattle.mx_source.specs.SourceValue.{SourceValue}

abbrev pub Labels : Type 0
Labels = List (List ℕ × Label)

-- a text and the end of its line
abbrev pub ended : List ℕ → List ℕ
ended text = text ++ 10 ∷ []

-- the name of the first label that names the place, in the order of the labels
abbrev pub first_name : (Label → Bool) → Labels → List ℕ
first_name names labels = unwrap_or (option_map (λ p. p.0) (find (λ p. names p.1) labels)) []

-- a line NAME: for each label that names the place, in the order of the labels
abbrev pub label_lines : (Label → Bool) → Labels → List ℕ
label_lines names labels = flat_map (λ p. cond (names p.1) (ended (p.0 ++ codes ":")) []) labels

abbrev pub register : ℕ → List ℕ
register r = codes "r" ++ decimal r

abbrev pub immediate : ℤ → List ℕ
immediate z = codes "#" ++ signed_decimal z

abbrev pub count : ℕ → List ℕ
count n = codes "#" ++ decimal n

abbrev pub memory : ℤ → ℕ → List ℕ
memory offset base = signed_decimal offset ++ codes "[" ++ register base ++ codes "]"

-- a mnemonic, one blank, and operands between commas
abbrev pub spelled : List ℕ → List (List ℕ) → List ℕ
spelled mnemonic operands = mnemonic ++ codes " " ++ join_with_byte 44 operands

-- the mnemonic of an operation
abbrev pub operation_text : Op → List ℕ
operation_text Add = codes "add"
operation_text Sub = codes "sub"
operation_text Subnc = codes "subnc"
operation_text And = codes "and"
operation_text Or = codes "or"
operation_text Xor = codes "xor"
operation_text Bic = codes "bic"
operation_text Not = codes "not"
operation_text Rotlb = codes "rotlb"
operation_text Mstart = codes "mstart"
operation_text Mstep = codes "mstep"
operation_text Dstep = codes "dstep"
operation_text (Asr n) = codes "asr"
operation_text (Sh n) = codes "sh"

abbrev pub compute_text : Op → ℕ → ℕ → ℕ → List ℕ
compute_text Not a b dest = spelled (operation_text Not) (register a ∷ register dest ∷ [])
compute_text Mstart a b dest = spelled (operation_text Mstart) (register b ∷ register dest ∷ [])
compute_text (Asr n) a b dest = spelled (operation_text (Asr n)) (register a ∷ count n ∷ register dest ∷ [])
compute_text (Sh n) a b dest = spelled (operation_text (Sh n)) (register a ∷ register b ∷ count n ∷ register dest ∷ [])
compute_text op a b dest = spelled (operation_text op) (register a ∷ register b ∷ register dest ∷ [])

-- the mnemonic of a branch
abbrev pub condition_text : Cond → List ℕ
condition_text Eq = codes "beq"
condition_text Ne = codes "bne"
condition_text Lt = codes "blt"
condition_text Ge = codes "bge"
condition_text Lo = codes "blo"
condition_text Hs = codes "bhs"

abbrev pub instruction_text : Inst → List ℕ
instruction_text (Load base dest offset) = spelled (codes "ld") (memory offset base ∷ register dest ∷ [])
instruction_text (Store base value offset) = spelled (codes "st") (memory offset base ∷ register value ∷ [])
instruction_text (Compute a dest b op) = compute_text op a b dest
instruction_text (Addi a dest imm) = spelled (codes "addi") (register a ∷ immediate imm ∷ register dest ∷ [])
instruction_text (MoveFrom dest special) = spelled (codes "movfrs") (codes "md" ∷ register dest ∷ [])
instruction_text (MoveTo a special) = spelled (codes "movtos") (register a ∷ codes "md" ∷ [])
instruction_text _ = []

-- the name of a place of code
abbrev pub place_name : Labels → ℕ → List ℕ
place_name labels i = first_name (names_index i) labels

abbrev pub statement_text : Labels → Statement → List ℕ
statement_text labels (Plain inst) = instruction_text inst
statement_text labels (LaCode dest target) = spelled (codes "la") (place_name labels target ∷ register dest ∷ [])
statement_text labels (Branch a b condition target) =
    spelled (condition_text condition) (register a ∷ register b ∷ place_name labels target ∷ [])
statement_text labels (Call dest target) = spelled (codes "call") (place_name labels target ∷ register dest ∷ [])
statement_text labels (CallReg a dest) = spelled (codes "callr") (register a ∷ register dest ∷ [])
statement_text labels (JumpReg a) = spelled (codes "jr") (register a ∷ [])
statement_text labels Halt = codes "halt"

-- the statements from an index on, each behind the labels of its index, and the labels of the end
abbrev pub code_text : Labels → ℕ → List Statement → List ℕ
code_text labels i [] = label_lines (names_index i) labels
code_text labels i (s ∷ rest) = label_lines (names_index i) labels ++ ended (statement_text labels s) ++ code_text labels (suc i) rest

abbrev pub value_text : Labels → Value → List ℕ
value_text labels (Int word) = decimal word
value_text labels (Code i) = place_name labels i

-- the data words from an address on, each behind the labels of its address, and the labels of the end
abbrev pub words_text : Labels → ℕ → List Value → List ℕ
words_text labels a [] = label_lines (names_address a) labels
words_text labels a (v ∷ rest) =
    label_lines (names_address a) labels ++ ended (spelled (codes ".word") (value_text labels v ∷ [])) ++ words_text labels (suc a) rest

abbrev pub has_words : List Value → Bool
has_words [] = false
has_words (v ∷ rest) = true

-- the data section, where there are data words or data labels
abbrev pub data_text : Labels → List Value → List ℕ
data_text labels words =
    cond (has_words words || list_any (λ p. is_data_label p.1) labels) (ended (codes ".data") ++ words_text labels DATA_BASE words) []

abbrev pub input_text : Option ℕ → List ℕ
input_text None = []
input_text (Some line) = ended (codes ".input")

-- the canonical text
abbrev pub printed : SourceValue → List ℕ
printed s = input_text s.input ++ code_text s.labels 0 s.statements ++ data_text s.labels s.user_data
