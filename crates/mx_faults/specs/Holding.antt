-- Each of the fourteen faults as a predicate of its own on a line within its text.
use Rattle.std.specs.Prelude.{ℕ, ◌+◌, Bool, true, false, not, ◌||◌, ◌&&◌, ◌==◌, nat_lt, nat_le, List, [], ◌∷◌, ◌++◌, length, take, get_or, find, Option, Some, None, is_err, if◌then◌else◌}
use Rattle.std.specs.List.{list_any}
use Rattle.mx_lines.specs.declared.fault.TheConstants.{MAX_LINE_BYTES}
use Rattle.mx_isa.specs.declared.board.TheConstants.{MAX_STATEMENTS}
use Rattle.mx_lex.specs.Bytes.{is_allowed}
use Rattle.mx_lex.specs.Tokens.{tokens_of}
use Rattle.mx_asm.specs.declared.position.Section.{Section}
use Rattle.mx_asm.specs.declared.directive.Directive.{Directive}
use Rattle.mx_asm.specs.declared.directive.Directive.TheVariants as d
use Rattle.mx_lines.specs.declared.mnemonic.Mnemonic.TheVariants.{System}
use Rattle.mx_lines.specs.declared.fault.Fault.{Fault}
use Rattle.mx_lines.specs.declared.fault.Fault.TheVariants as faults
use Rattle.mx_asm.specs.Directives.{is_dotted}
use Rattle.mx_asm.specs.Faults.{is_data}
use Rattle.mx_asm.specs.Positions.{front_names, line_words, has_label}
use Rattle.mx_faults.specs.Forms.{Form, Nameless, AnInstruction, ADirective, form, shape, directive_shape, has_shape, operands, is_no_register, is_outside, is_undefined, is_wrong_kind, moves_chain}
use Rattle.mx_faults.specs.Before.{statement, section_behind, front_labels, defines, kind_in, has_twice, instructions, data_words}

-- a line within the text whose data words stand from one address to before another
pub record LineInText : Type 0 where
  pub low : ℕ
  pub end : ℕ
  pub all : List (List ℕ)
  pub before : List (List ℕ)
  pub line : List ℕ

-- the line at this place among the lines of a text
abbrev pub line_at : ℕ → ℕ → List (List ℕ) → ℕ → LineInText
line_at low end lines place = record { low = low; end = end; all = lines; before = take place lines; line = get_or lines place [] }

-- the lines before a line, and the line
abbrev pub and_before : LineInText → List (List ℕ)
and_before l = l.before ++ l.line ∷ []

-- what stands before the comment
abbrev pub before_comment : List ℕ → List ℕ
before_comment [] = []
before_comment (b ∷ line) = if b == 59 then [] else b ∷ before_comment line

-- F1: a byte outside the comment is neither a tab nor 32 to 126
abbrev pub has_bad_byte : LineInText → Bool
has_bad_byte l = list_any (λ b. not (is_allowed b)) (before_comment l.line)

-- F2: the line does not split into tokens
abbrev pub has_bad_token : LineInText → Bool
has_bad_token l = is_err (tokens_of l.line)

-- F3: the statement begins with a name that is no mnemonic and does not begin with `.`
abbrev pub is_unknown : Form → Bool
is_unknown (AnInstruction None words) = true
is_unknown _ = false

abbrev pub has_unknown_mnemonic : LineInText → Bool
has_unknown_mnemonic l = is_unknown (form (statement l.line))

-- F4: the statement does not begin with a name, or its operands do not have the shape of its mnemonic
abbrev pub is_misshapen : Form → Bool
is_misshapen Nameless = true
is_misshapen (AnInstruction (Some mnemonic) words) = not (has_shape (shape mnemonic) words)
is_misshapen _ = false

abbrev pub has_bad_operands : LineInText → Bool
has_bad_operands l = is_misshapen (form (statement l.line))

-- F5: a name in the place of a register or a special name is none
abbrev pub has_bad_register : LineInText → Bool
has_bad_register l = list_any is_no_register (operands (form (statement l.line)))

-- F6: a number is outside the range of its place
abbrev pub has_number_out_of_range : LineInText → Bool
has_number_out_of_range l = list_any is_outside (operands (form (statement l.line)))

-- F7: a label at the front is defined on an earlier line, or earlier on this line
abbrev pub has_duplicate_label : LineInText → Bool
has_duplicate_label l = list_any (λ name. list_any (defines name) l.before) (front_labels l.line) || has_twice (front_labels l.line)

-- F8: a label in an operand is defined nowhere in the text
abbrev pub has_undefined_label : LineInText → Bool
has_undefined_label l = list_any (is_undefined (kind_in l.all)) (operands (form (statement l.line)))

-- F9: a code label as an offset, or a data label as a target
abbrev pub has_wrong_label_kind : LineInText → Bool
has_wrong_label_kind l = list_any (is_wrong_kind (kind_in l.all)) (operands (form (statement l.line)))

-- F10: `jpc`, `jpcrs`, or a move of `pc1`, `pc2` or `pc3`
abbrev pub is_system : Form → Bool
is_system (AnInstruction (Some System) words) = true
is_system _ = false

abbrev pub has_system_instruction : LineInText → Bool
has_system_instruction l = is_system (form (statement l.line)) || list_any moves_chain (operands (form (statement l.line)))

-- `.word` and `.space`
abbrev pub gives_data : Directive → Bool
gives_data d.Word = true
gives_data d.Space = true
gives_data _ = false

-- an unknown directive, one of another shape, or a statement in the section of the others
abbrev pub is_misplaced : Section → Form → Bool
is_misplaced s (ADirective None words) = true
is_misplaced s (ADirective (Some directive) words) = not (has_shape (directive_shape directive words) words) || (gives_data directive && not (is_data s))
is_misplaced s (AnInstruction mnemonic words) = is_data s
is_misplaced s _ = false

-- F11: the same, or a label that begins with `.`
abbrev pub has_bad_directive : LineInText → Bool
has_bad_directive l = is_misplaced (section_behind l.before) (form (statement l.line)) || list_any is_dotted (front_names (line_words l.line))

-- F12: with this line there are more than 20,000 instructions
abbrev pub has_too_many_instructions : LineInText → Bool
has_too_many_instructions l = nat_lt MAX_STATEMENTS (instructions (and_before l))

-- F13: the data words up to this line's end past the last address, or a data label would stand there
abbrev pub has_full_data : LineInText → Bool
has_full_data l =
    nat_lt l.end (l.low + data_words (and_before l))
    || (is_data (section_behind l.before) && has_label (line_words l.line) && nat_le l.end (l.low + data_words l.before))

-- F14: the line has more than 255 bytes without its line end
abbrev pub is_too_long : LineInText → Bool
is_too_long l = nat_lt MAX_LINE_BYTES (length l.line)

-- a fault holds of a line within its text
abbrev pub holds : LineInText → Fault → Bool
holds l faults.BadByte = has_bad_byte l
holds l faults.BadToken = has_bad_token l
holds l faults.UnknownMnemonic = has_unknown_mnemonic l
holds l faults.BadOperands = has_bad_operands l
holds l faults.BadRegister = has_bad_register l
holds l faults.NumberOutOfRange = has_number_out_of_range l
holds l faults.DuplicateLabel = has_duplicate_label l
holds l faults.UndefinedLabel = has_undefined_label l
holds l faults.WrongLabelKind = has_wrong_label_kind l
holds l faults.SystemInstruction = has_system_instruction l
holds l faults.BadDirective = has_bad_directive l
holds l faults.TooManyInstructions = has_too_many_instructions l
holds l faults.DataFull = has_full_data l
holds l faults.LineTooLong = is_too_long l

-- the faults, the least first
abbrev pub all_faults : List Fault
all_faults =
    faults.BadByte ∷ faults.BadToken ∷ faults.UnknownMnemonic ∷ faults.BadOperands ∷ faults.BadRegister ∷ faults.NumberOutOfRange
    ∷ faults.DuplicateLabel ∷ faults.UndefinedLabel ∷ faults.WrongLabelKind ∷ faults.SystemInstruction ∷ faults.BadDirective
    ∷ faults.TooManyInstructions ∷ faults.DataFull ∷ faults.LineTooLong ∷ []

-- the least fault that holds of a line
abbrev pub least_of : LineInText → Option Fault
least_of l = find (holds l) all_faults
