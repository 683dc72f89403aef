-- The faulty lines of a text, and what it means that a fault is the least.
use Rattle.std.specs.Prelude.{◌≡◌, ℕ, ◌+◌, ◌-◌, ◌<◌, true, false, List, [], ◌∷◌, length, take, get_or, filter_map, option_map, Option, Some, None}
use Rattle.std.specs.List.{range_with_len}
use Rattle.mx_lex.specs.Lines.{lines_of}
use Rattle.mx_lines.specs.declared.fault.Fault.{Fault}
use Rattle.mx_lines.specs.declared.fault.Fault.TheVariants as faults
use Rattle.mx_asm.specs.Positions.{start, position_at_end, labels_from}
use Rattle.mx_asm.specs.Texts.{text_labels}
use Rattle.mx_asm.specs.Faults.{line_fault}
use Rattle.mx_faults.specs.declared.line_fault.LineFault.{LineFault}
use Rattle.mx_faults.specs.Holding.{LineInText, line_at, holds, least_of}
use Rattle.mx_faults.specs.Showing.{fault_span}

-- a line with its number, from 1 on, and its least fault, if it has one
abbrev pub faulty_at : ℕ → ℕ → List (List ℕ) → ℕ → Option (ℕ × Fault)
faulty_at low end lines place = option_map (λ fault. (place + 1, fault)) (least_of (line_at low end lines place))

-- the faulty lines, in order
abbrev pub faulty_lines : ℕ → ℕ → List (List ℕ) → List (ℕ × Fault)
faulty_lines low end lines = filter_map (faulty_at low end lines) (range_with_len 0 (length lines))

-- the faulty lines of a text whose data words stand from one address to before another
abbrev pub faults_in : ℕ → ℕ → List ℕ → List (ℕ × Fault)
faults_in low end text = faulty_lines low end (lines_of text)

-- the first of a list
abbrev pub first : {A : Type 0} → List A → Option A
first [] = None
first (x ∷ xs) = Some x

-- a fault's number: 1 for BadByte, and so on
abbrev pub number_of : Fault → ℕ
number_of faults.BadByte = 1
number_of faults.BadToken = 2
number_of faults.UnknownMnemonic = 3
number_of faults.BadOperands = 4
number_of faults.BadRegister = 5
number_of faults.NumberOutOfRange = 6
number_of faults.DuplicateLabel = 7
number_of faults.UndefinedLabel = 8
number_of faults.WrongLabelKind = 9
number_of faults.SystemInstruction = 10
number_of faults.BadDirective = 11
number_of faults.TooManyInstructions = 12
number_of faults.DataFull = 13
number_of faults.LineTooLong = 14

-- the fault of a line is this one: it holds, and none with a lesser number does; or none holds
abbrev pub IsLeast : LineInText → Option Fault → Type 0
IsLeast l None = (fault : Fault) → holds l fault ≡ false
IsLeast l (Some least) = (holds l least ≡ true) × ((fault : Fault) → number_of fault < number_of least → holds l fault ≡ false)

-- the fault that the assembler's definition gives the line at a place of a text
abbrev pub assembled_fault : ℕ → ℕ → List ℕ → ℕ → Option Fault
assembled_fault low end text place =
    let lines = lines_of text in
    line_fault (text_labels low text) end
    (position_at_end (start low) (take place lines)) (labels_from (start low) [] (take place lines)) (get_or lines place [])

-- a line of a text, by its place
abbrev pub text_line : ℕ → ℕ → List ℕ → ℕ → LineInText
text_line low end text place = line_at low end (lines_of text) place

-- a faulty line of a text has the bytes of the token that shows its fault
abbrev pub HasSpan : ℕ → ℕ → List ℕ → LineFault → Type 0
HasSpan low end text f = f.span ≡ fault_span (text_line low end text (f.line - 1)) f.fault

-- the number and the fault of a faulty line
abbrev pub numbered : LineFault → ℕ × Fault
numbered f = (f.line, f.fault)
