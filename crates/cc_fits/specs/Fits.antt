-- What the source language takes: registers, numbers and names in the lines and the data of a translation.
use Rattle.std.specs.Prelude.{ℕ, ◌^◌, Bool, true, false, not, ◌&&◌, ◌||◌, ◌==◌, nat_lt, List, length, Option, Some, None, slice_get, option_map, unwrap_or}
use Rattle.std.specs.Borrow.{Bor}
use Rattle.std.specs.Char.{is_ascii_digit}
use Rattle.std.specs.List.{list_all}
use Rattle.cc_lines.specs.Bytes.{is_named}
use Rattle.cc_program.specs.declared.item.Object.{Object}
use Rattle.cc_program.specs.declared.item.Reference.{Reference}
use Rattle.cc_program.specs.declared.program.Program.{Program}
use Rattle.cc_program.specs.declared.symbols.Symbol.{Symbol}
use Rattle.cc_program.specs.Programs.{resolved}
use Rattle.cc_emit.specs.declared.line.Line.{Line}
use Rattle.cc_emit.specs.declared.line.Line.TheVariants.{Plain as PlainLine, Transfer as TransferLine, Constant, Take, Mark, Told, Written}
use Rattle.cc_emit.specs.declared.line.Plain.{Plain}
use Rattle.cc_emit.specs.declared.line.Plain.TheVariants.{Compute, Move, Not, Addi, Asr, Sh, Load, Store}
use Rattle.cc_emit.specs.declared.line.Target.{Target}
use Rattle.cc_emit.specs.declared.line.Target.TheVariants.{Symbol as SymbolTarget, Routine, Shifted, Skip}
use Rattle.cc_emit.specs.declared.line.Transfer.{Transfer}
use Rattle.cc_emit.specs.declared.line.Transfer.TheVariants.{Branch, Jump, Call, CallReg, JumpReg, Halt}
use Rattle.cc_emit.specs.declared.line.Word.{Word}
use Rattle.cc_emit.specs.declared.line.Word.TheVariants.{Number, End}
use Rattle.cc_emit.specs.declared.output.Output.{Output}
use Rattle.cc_emit.specs.declared.print.TheConstants.{LONGEST_FILE}
use Rattle.cc_emit.specs.Lines.{is_short, file_name}
use Rattle.cc_emit.specs.Names.{is_made}

-- a register of the machine, by how many bits an instruction shifts, and numbers of 8 and of 32 bits
abbrev pub is_register : ℕ → Bool
is_register number = nat_lt number 32

abbrev pub is_count : ℕ → Bool
is_count count = nat_lt count 32

abbrev pub is_byte : ℕ → Bool
is_byte number = nat_lt number 256

abbrev pub is_word : ℕ → Bool
is_word number = nat_lt number (2 ^ 32)

-- ---- names

abbrev pub has_digit_second : List ℕ → Bool
has_digit_second name = unwrap_or (option_map is_ascii_digit (slice_get name 1)) false

abbrev pub begins_with_digit : List ℕ → Bool
begins_with_digit name = is_made name && has_digit_second name

-- the source has a name for a name of the assembly: it has letters, digits, `_`, `.` and `$` alone, and no digit after a `$` in front
abbrev pub name_fits : List ℕ → Bool
name_fits name = not (begins_with_digit name) && list_all is_named name

-- it has one for the symbol that a symbol is an alias of, or for itself; the number of its text has 32 bits
abbrev pub symbol_fits : List Symbol → ℕ → Bool
symbol_fits symbols number =
    unwrap_or (option_map (λ s. name_fits s.name.now && is_word s.owner) (slice_get symbols (resolved symbols number))) false

-- LF and CR end a line
abbrev pub ends_line : ℕ → Bool
ends_line b = b == 10 || b == 13

abbrev pub is_one_line : List ℕ → Bool
is_one_line text = list_all (λ b. not (ends_line b)) text

-- the name of a source file, unless it is too long to be written
abbrev pub file_fits : Option (Bor (List ℕ)) → Bool
file_fits None = true
file_fits (Some name) = nat_lt LONGEST_FILE (length name.now) || is_one_line name.now

-- ---- lines

abbrev pub plain_fits : Plain → Bool
plain_fits (Compute op a b rd) = is_register a && is_register b && is_register rd
plain_fits (Move rs rd) = is_register rs && is_register rd
plain_fits (Not rs rd) = is_register rs && is_register rd
plain_fits (Addi rs number rd) = is_register rs && is_short number && is_register rd
plain_fits (Asr rs count rd) = is_register rs && is_count count && is_register rd
plain_fits (Sh a b count rd) = is_register a && is_register b && is_count count && is_register rd
plain_fits (Load words base rd) = is_short words && is_register base && is_register rd
plain_fits (Store words base rs) = is_short words && is_register base && is_register rs

abbrev pub word_fits : Word → Bool
word_fits (Number n) = is_word n
word_fits (End addend) = is_word addend
word_fits _ = true

abbrev pub target_fits : List Symbol → Target → Bool
target_fits symbols (SymbolTarget number) = symbol_fits symbols number
target_fits symbols (Routine routine) = true
target_fits symbols (Shifted routine count) = is_byte count
target_fits symbols (Skip number) = is_word number

abbrev pub transfer_fits : List Symbol → Transfer → Bool
transfer_fits symbols (Branch condition a b to) = is_register a && is_register b && target_fits symbols to
transfer_fits symbols (Jump to) = target_fits symbols to
transfer_fits symbols (Call to link) = target_fits symbols to && is_register link
transfer_fits symbols (CallReg rs link) = is_register rs && is_register link
transfer_fits symbols (JumpReg rs) = is_register rs
transfer_fits symbols Halt = true

-- a line, but for those of routines, which are texts already
abbrev pub line_fits : Program → Line → Bool
line_fits p (PlainLine plain) = plain_fits plain
line_fits p (Constant value rd) = is_word value && is_register rd
line_fits p (Take word base rd) = word_fits word && is_register base && is_register rd
line_fits p (TransferLine transfer) = transfer_fits p.symbols.list.items transfer
line_fits p (Mark target) = target_fits p.symbols.list.items target
line_fits p (Told unit file line) = file_fits (file_name p unit file) && is_word line
line_fits p (Written text) = false

-- ---- data

abbrev pub reference_fits : List Symbol → Reference → Bool
reference_fits symbols one = symbol_fits symbols one.symbol

-- a datum that is kept has a name, bytes, and symbols with names
abbrev pub object_fits : List Symbol → Object → Bool
object_fits symbols object =
    not object.kept
    || (symbol_fits symbols object.symbol && list_all (reference_fits symbols) object.content.references.items && list_all is_byte object.content.bytes.items)

-- numbers that the translation adds, and how many statements and instructions it has
abbrev pub added_fits : Output → Bool
added_fits out = list_all is_word out.numbers.keys && list_all is_word out.ends.keys && is_word out.statements && is_word out.instructions

abbrev pub data_fits : Program → Output → Bool
data_fits p out = list_all (object_fits p.symbols.list.items) p.objects.items && added_fits out
