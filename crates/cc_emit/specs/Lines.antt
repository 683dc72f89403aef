-- The text of the lines of a translation.
use Rattle.std.specs.Prelude.{ℕ, ℤ, ◌+◌, ◌*◌, ◌^◌, Bool, true, false, not, cond, ◌&&◌, ◌==◌, nat_eq, nat_le, int_le, pos, negsuc, List, [], ◌∷◌, ◌++◌, length, codes, decimal, Option, Some, None}
use Rattle.std.specs.Int.{w32, cast_signed}
use Rattle.std.specs.List.{flat_map, filter, ends_with}
use Rattle.std.specs.Borrow.{Bor}
use Rattle.indexmap.specs.IndexMap.{get_by}
use Rattle.cc_program.specs.declared.symbols.Symbol.{Symbol}
use Rattle.cc_program.specs.declared.program.Program.{Program}
use Rattle.cc_emit.specs.declared.line.Plain.{Plain}
use Rattle.cc_emit.specs.declared.line.Plain.TheVariants.{Compute, Move, Not, Addi, Asr, Sh, Load, Store}
use Rattle.cc_emit.specs.declared.line.Word.TheVariants.{Number}
use Rattle.cc_emit.specs.declared.line.Transfer.{Transfer}
use Rattle.cc_emit.specs.declared.line.Transfer.TheVariants.{Branch, Jump, Call, CallReg, JumpReg, Halt}
use Rattle.cc_emit.specs.declared.line.Line.{Line}
use Rattle.cc_emit.specs.declared.line.Line.TheVariants.{Plain as PlainLine, Transfer as TransferLine, Constant, Take, Mark, Told, Written}
use Rattle.cc_emit.specs.declared.operand.Operand.TheVariants.{Register, Immediate, Count, Memory, Held, Place}
use Rattle.cc_emit.specs.Statements.{spelled, target_label, computed_text, condition_text}

-- a line that is a statement, and no label and no comment
abbrev pub is_statement : Line → Bool
is_statement (Mark target) = false
is_statement (Told unit file line) = false
is_statement (Written text) = not (ends_with nat_eq text.now (58 ∷ []))
is_statement _ = true

-- an instruction holds the number
abbrev pub is_short : ℤ → Bool
is_short z = int_le (negsuc 65535) z && int_le z (pos 65535)

abbrev pub plain_text : List Symbol → Plain → List ℕ
plain_text symbols (Compute op a b rd) = spelled symbols (computed_text op) (Register a) (Register b ∷ Register rd ∷ [])
plain_text symbols (Move rs rd) = spelled symbols (codes "mov") (Register rs) (Register rd ∷ [])
plain_text symbols (Not rs rd) = spelled symbols (codes "not") (Register rs) (Register rd ∷ [])
plain_text symbols (Addi rs number rd) = spelled symbols (codes "addi") (Register rs) (Immediate number ∷ Register rd ∷ [])
plain_text symbols (Asr rs count rd) = spelled symbols (codes "asr") (Register rs) (Count count ∷ Register rd ∷ [])
plain_text symbols (Sh a b count rd) = spelled symbols (codes "sh") (Register a) (Register b ∷ Count count ∷ Register rd ∷ [])
plain_text symbols (Load words base rd) = spelled symbols (codes "ld") (Memory words base) (Register rd ∷ [])
plain_text symbols (Store words base rs) = spelled symbols (codes "st") (Memory words base) (Register rs ∷ [])

abbrev pub transfer_text : List Symbol → Transfer → List ℕ
transfer_text symbols (Branch condition a b to) = spelled symbols (condition_text condition) (Register a) (Register b ∷ Place to ∷ [])
transfer_text symbols (Jump to) = spelled symbols (codes "b") (Place to) []
transfer_text symbols (Call to link) = spelled symbols (codes "call") (Place to) (Register link ∷ [])
transfer_text symbols (CallReg rs link) = spelled symbols (codes "callr") (Register rs) (Register link ∷ [])
transfer_text symbols (JumpReg rs) = spelled symbols (codes "jr") (Register rs) []
transfer_text symbols Halt = codes "        halt\n"

-- the load of a number, as it is where an instruction holds it, else from a word of data
abbrev pub constant_text : List Symbol → ℕ → ℕ → List ℕ
constant_text symbols value rd =
    cond (is_short (cast_signed w32 value))
    (spelled symbols (codes "addi") (Register 0) (Immediate (cast_signed w32 value) ∷ Register rd ∷ []))
    (spelled symbols (codes "ld") (Held (Number value) 0) (Register rd ∷ []))

-- the name of the source file with a number in a text, in quotes
abbrev pub file_name : Program → ℕ → ℕ → Option (Bor (List ℕ))
file_name p unit file = get_by (λ key. nat_eq (unit * 2 ^ 32 + file) key) p.files

-- a comment with a name of at most 160 bytes, without its quotes, and a line
abbrev pub told_text : Option (Bor (List ℕ)) → ℕ → List ℕ
told_text None line = []
told_text (Some name) line =
    cond (nat_le (length name.now) 160) (codes "; " ++ filter (λ b. not (b == 34)) name.now ++ codes ":" ++ decimal line ++ codes "\n") []

abbrev pub line_text : Program → Line → List ℕ
line_text p (PlainLine plain) = plain_text p.symbols.list.items plain
line_text p (Constant value rd) = constant_text p.symbols.list.items value rd
line_text p (Take word base rd) = spelled p.symbols.list.items (codes "ld") (Held word base) (Register rd ∷ [])
line_text p (TransferLine transfer) = transfer_text p.symbols.list.items transfer
line_text p (Mark target) = target_label p.symbols.list.items target ++ codes ":\n"
line_text p (Told unit file line) = told_text (file_name p unit file) line
line_text p (Written text) = text.now ++ codes "\n"

-- the text of all lines
abbrev pub lines_text : Program → List Line → List ℕ
lines_text p lines = flat_map (line_text p) lines
