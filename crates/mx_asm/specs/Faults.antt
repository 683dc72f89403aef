-- The fault of a line within its text, and the first faulty line.
use Rattle.std.specs.Prelude.{ℕ, ◌+◌, Bool, true, false, ◌&&◌, ◌||◌, nat_le, nat_lt, ◌==◌, List, [], ◌∷◌, length, Option, Some, None, Result, Ok, Err, if◌then◌else◌}
use Rattle.mx_lines.specs.declared.fault.TheConstants.{MAX_LINE_BYTES}
use Rattle.mx_isa.specs.declared.board.TheConstants.{MAX_STATEMENTS}
use Rattle.mx_lines.specs.declared.fault.Fault.{Fault}
use Rattle.mx_lines.specs.declared.fault.Fault.TheVariants.{UnknownMnemonic, BadOperands, BadRegister, NumberOutOfRange, DuplicateLabel, BadDirective, TooManyInstructions, DataFull, LineTooLong}
use Rattle.mx_asm.specs.declared.position.Section.{Section}
use Rattle.mx_asm.specs.declared.position.Section.TheVariants as section
use Rattle.mx_asm.specs.declared.position.Position.{Position}
use Rattle.mx_lines.specs.Words.{Word, words_of}
use Rattle.mx_lines.specs.Instructions.{Labels}
use Rattle.mx_asm.specs.Directives.{Effect, effect_of}
use Rattle.mx_asm.specs.Positions.{statement_words, has_label, has_dotted_label, after, label_here, is_repeated, with_labels, line_words}

-- the faults that come before DuplicateLabel
abbrev pub is_early : Fault → Bool
is_early UnknownMnemonic = true
is_early BadOperands = true
is_early BadRegister = true
is_early NumberOutOfRange = true
is_early _ = false

-- the data section
abbrev pub is_data : Section → Bool
is_data section.Data = true
is_data section.Code = false

-- a data label of the line would stand past the end of memory
abbrev pub stands_past : ℕ → Position → List Word → Bool
stands_past end p words = is_data p.section && has_label words && nat_le end p.address

-- the line's data words end past the end of memory, or a data label would stand there
abbrev pub is_full : ℕ → Position → List Word → Bool
is_full end p words = nat_lt end (after p words).address || stands_past end p words

-- the last three faults of a line that stands at a position
abbrev pub place_fault : ℕ → Position → ℕ → List Word → Option Fault
place_fault end p long words =
    if nat_lt MAX_STATEMENTS (after p words).index then Some TooManyInstructions
    else (if is_full end p words then Some DataFull else (if nat_lt MAX_LINE_BYTES long then Some LineTooLong else None))

-- the first of the faults that its statement does not decide
abbrev pub layout_fault : ℕ → Position → ℕ → List Word → Option Fault
layout_fault end p long words = if has_dotted_label words then Some BadDirective else place_fault end p long words

-- the lesser of the fault of a statement and of a label that is defined again, which comes behind the early faults and before all others
abbrev pub with_repeat : Bool → Fault → Fault
with_repeat repeated fault = if is_early fault then fault else (if repeated then DuplicateLabel else fault)

-- the least fault of a line that splits into words
abbrev pub least_fault : Bool → Result Effect Fault → Option Fault → Option Fault
least_fault repeated (Err fault) rest = Some (with_repeat repeated fault)
least_fault repeated (Ok effect) rest = if repeated then Some DuplicateLabel else rest

-- the least fault of a line that has so many bytes
abbrev pub words_fault : Labels → ℕ → Position → Bool → ℕ → Result (List Word) Fault → Option Fault
words_fault labels end p repeated long (Err fault) = Some fault
words_fault labels end p repeated long (Ok words) = least_fault repeated (effect_of labels p.section (statement_words words)) (layout_fault end p long words)

-- a label of the line is defined earlier
abbrev pub repeats : Position → Labels → List Word → Bool
repeats p earlier words = is_repeated earlier (label_here p) words

-- the fault of a line that stands here, where the text has these labels and the lines before it those
abbrev pub line_fault : Labels → ℕ → Position → Labels → List ℕ → Option Fault
line_fault labels end p earlier line = words_fault labels end p (repeats p earlier (line_words line)) (length line) (words_of line)

-- the fault of a line with its number, or what a later line has
abbrev pub found_or : ℕ → Option Fault → Option (ℕ × Fault) → Option (ℕ × Fault)
found_or number (Some fault) later = Some (number, fault)
found_or number None later = later

-- the first faulty line from a position and a line number on, with its fault
abbrev pub first_fault : Labels → ℕ → Position → Labels → ℕ → List (List ℕ) → Option (ℕ × Fault)
first_fault labels end p earlier number [] = None
first_fault labels end p earlier number (line ∷ lines) =
    found_or number (line_fault labels end p earlier line)
    (first_fault labels end (after p (line_words line)) (with_labels p earlier (line_words line)) (number + 1) lines)

-- the number of the first line that defines a label again
abbrev pub first_repeat : Position → Labels → ℕ → List (List ℕ) → Option ℕ
first_repeat p earlier number [] = None
first_repeat p earlier number (line ∷ lines) =
    if repeats p earlier (line_words line) then Some number
    else first_repeat (after p (line_words line)) (with_labels p earlier (line_words line)) (number + 1) lines

-- the line that was found, or else this one if it defines a label again
abbrev pub earlier_line : Option ℕ → Bool → ℕ → Option ℕ
earlier_line (Some line) again number = Some line
earlier_line None again number = if again then Some number else None

-- the line that was found is this one
abbrev pub is_line : Option ℕ → ℕ → Bool
is_line (Some line) number = line == number
is_line None number = false
