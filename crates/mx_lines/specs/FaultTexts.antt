-- How a fault is told: its number and its name.
use Rattle.std.specs.Prelude.{ℕ, List, codes}
use Rattle.mx_lines.specs.declared.fault.Fault.{Fault}
use Rattle.mx_lines.specs.declared.fault.Fault.TheVariants as fault

-- the text of a fault
abbrev pub fault_text : Fault → List ℕ
fault_text fault.BadByte = codes "F1 BadByte"
fault_text fault.BadToken = codes "F2 BadToken"
fault_text fault.UnknownMnemonic = codes "F3 UnknownMnemonic"
fault_text fault.BadOperands = codes "F4 BadOperands"
fault_text fault.BadRegister = codes "F5 BadRegister"
fault_text fault.NumberOutOfRange = codes "F6 NumberOutOfRange"
fault_text fault.DuplicateLabel = codes "F7 DuplicateLabel"
fault_text fault.UndefinedLabel = codes "F8 UndefinedLabel"
fault_text fault.WrongLabelKind = codes "F9 WrongLabelKind"
fault_text fault.SystemInstruction = codes "F10 SystemInstruction"
fault_text fault.BadDirective = codes "F11 BadDirective"
fault_text fault.TooManyInstructions = codes "F12 TooManyInstructions"
fault_text fault.DataFull = codes "F13 DataFull"
fault_text fault.LineTooLong = codes "F14 LineTooLong"
