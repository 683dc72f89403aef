-- How the program goes over the lines of a text. Only private functions cite this.
use Rattle.std.specs.Prelude.{◌≡◌, ℕ, ◌+◌, ◌-◌, Bool, List, [], ◌∷◌, take, get_or, option_map, Option, Some, None, if◌then◌else◌}
use Rattle.std.specs.List.{cons_option}
use Rattle.mx_lines.specs.declared.fault.Fault.{Fault}
use Rattle.mx_lines.specs.declared.fault.Fault.TheVariants as f
use Rattle.mx_asm.specs.declared.position.Section.{Section}
use Rattle.mx_asm.specs.declared.position.Position.{Position}
use Rattle.mx_source.specs.declared.statement.Label.{Label}
use Rattle.mx_source.specs.declared.statement.Label.TheVariants as label
use Rattle.mx_asm.specs.declared.position.Section.TheVariants as section
use Rattle.mx_lines.specs.Operands.{label_named}
use Rattle.mx_lines.specs.Words.{Word, Name, Colon}
use Rattle.mx_lines.specs.Instructions.{Labels}
use Rattle.mx_asm.specs.Positions.{is_defined, define, label_here, start, after, with_labels, labels_from, position_at_end, line_words}
use Rattle.mx_asm.specs.Faults.{line_fault}
use Rattle.mx_faults.specs.declared.span.Span.{Span}
use Rattle.mx_faults.specs.declared.line_fault.LineFault.{LineFault}
use Rattle.mx_faults.specs.Showing.{span_by}

-- the fault of a line with its number, if it has one
abbrev pub with_number : ℕ → Option Fault → Option (ℕ × Fault)
with_number number o = option_map (λ fault. (number, fault)) o

-- the faulty lines from a position on
abbrev pub walked : Labels → ℕ → Position → Labels → ℕ → List (List ℕ) → List (ℕ × Fault)
walked labels end p earlier number [] = []
walked labels end p earlier number (line ∷ lines) =
    cons_option (with_number number (line_fault labels end p earlier line))
    (walked labels end (after p (line_words line)) (with_labels p earlier (line_words line)) (number + 1) lines)

-- a fault, or that of a label that is defined again
abbrev pub or_repeat : Bool → Option Fault → Option Fault
or_repeat repeated fault = if repeated then Some f.DuplicateLabel else fault

-- the fault of a line by the one that it has alone, whether it defines a label again, and the one that its position gives
abbrev pub settled : Option Fault → Bool → Option Fault → Option Fault
settled (Some f.BadByte) repeated placed = Some f.BadByte
settled (Some f.BadToken) repeated placed = Some f.BadToken
settled (Some f.UnknownMnemonic) repeated placed = Some f.UnknownMnemonic
settled (Some f.BadOperands) repeated placed = Some f.BadOperands
settled (Some f.BadRegister) repeated placed = Some f.BadRegister
settled (Some f.NumberOutOfRange) repeated placed = Some f.NumberOutOfRange
settled (Some f.UndefinedLabel) repeated placed = or_repeat repeated (Some f.UndefinedLabel)
settled (Some f.WrongLabelKind) repeated placed = or_repeat repeated (Some f.WrongLabelKind)
settled (Some f.SystemInstruction) repeated placed = or_repeat repeated (Some f.SystemInstruction)
settled (Some f.BadDirective) repeated placed = or_repeat repeated (Some f.BadDirective)
settled _ repeated placed = or_repeat repeated placed

-- where a section begins
abbrev pub at_front : Section → ℕ → Position
at_front s address = record { section = s; index = 0; address = address }

-- the section that a label's kind is
abbrev pub section_of : Label → Section
section_of (label.Code i) = section.Code
section_of (label.Data a) = section.Data

-- the kind of what a name names among these labels
abbrev pub kind_by : Labels → List ℕ → Option Section
kind_by labels name = option_map section_of (label_named labels name)

-- the place of the first label at the front that is defined before, or earlier on this line
abbrev pub repeat_place : Labels → Label → ℕ → List Word → Option ℕ
repeat_place labels l place (Name name ∷ Colon ∷ words) = if is_defined labels name then Some place else repeat_place (define labels l name) l (place + 2) words
repeat_place labels l place _ = None

-- the bytes that show a fault of a line that stands here, where the text has these labels and the lines before it those
abbrev pub IsShownAs : Labels → Labels → Position → List ℕ → Option Span → Fault → Type 0
IsShownAs labels earlier p line span fault = span ≡ span_by (repeat_place earlier (label_here p) 0 (line_words line)) (kind_by labels) line fault

-- a faulty line has the bytes that show its fault, in a text of these lines with these labels
abbrev pub IsShown : Labels → ℕ → List (List ℕ) → LineFault → Type 0
IsShown labels low lines f =
    let before = take (f.line - 1) lines in
    IsShownAs labels (labels_from (start low) [] before) (position_at_end (start low) before) (get_or lines (f.line - 1) []) f.span f.fault

-- a fault of a line with the bytes that show it
abbrev pub with_span : ℕ → Option Span → Option Fault → Option LineFault
with_span line span fault = option_map (λ fault. record { line = line; fault = fault; span = span }) fault

-- the place that was found, or else this one if a label stands there that is defined before
abbrev pub earlier_place : Option ℕ → Bool → ℕ → Option ℕ
earlier_place (Some found) again place = Some found
earlier_place None again place = if again then Some place else None
