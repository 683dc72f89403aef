-- The files that a run reads besides its program: interrupt requests, then the input.
use Rattle.std.specs.Prelude.{ℕ, ◌++◌, [], codes, List, Bool, true, false, Option, Some, None, Result, Ok, Err}
use Rattle.std.specs.Fmt.{decimal}
use Rattle.mx_board.specs.declared.EventError.{EventError}
use Rattle.mx_board.specs.declared.EventError.TheVariants as event
use Rattle.mx_board.specs.RequestFile.{requests_of}
use Rattle.cmd_answer.specs.declared.FileKind.TheVariants.{Interrupts, Input}
use Rattle.cmd_answer.specs.declared.Status.TheVariants.{BadEvents}
use Rattle.cmd_answer.specs.Answer.{prints, text_line}
use Rattle.cmd_answer.specs.Protocol.{Protocol, Answers, Reads}
use Rattle.cmd_options.specs.declared.Limits.{Limits}
use Rattle.cmd_options.specs.Options.{Files}
use Rattle.cmd_simulate.specs.Simulated.{image_answer}

abbrev pub event_text : ℕ → List ℕ → List ℕ
event_text line cause = text_line (codes "interrupts line " ++ decimal line ++ codes ": " ++ cause)

-- the line of a faulty interrupt file
abbrev pub event_line : EventError → List ℕ
event_line (event.BadLine line) = event_text line (codes "BadLine")
event_line (event.TooMany line) = event_text line (codes "TooMany")
event_line (event.NotAscending line) = event_text line (codes "NotAscending")
event_line event.Memory = []

-- the cycles of a file, or its first faulty line
abbrev pub by_requests : Result (List ℕ) EventError → (List ℕ → Protocol) → Protocol
by_requests (Ok requests) next = next requests
by_requests (Err fault) next = Answers (prints BadEvents (event_line fault))

-- the requested cycles; none where no file is named
abbrev pub requests_protocol : Option (List ℕ) → (List ℕ → Protocol) → Protocol
requests_protocol None next = next []
requests_protocol (Some name) next = Reads Interrupts name (λ bytes. by_requests (requests_of bytes) next)

-- the input's bytes; none where no file is named
abbrev pub input_protocol : Option (List ℕ) → (List ℕ → Protocol) → Protocol
input_protocol None next = next []
input_protocol (Some name) next = Reads Input name next

-- the files of a run, in their order
abbrev pub files_protocol : Files → (List ℕ → List ℕ → Protocol) → Protocol
files_protocol files next = requests_protocol files.interrupts (λ requests. input_protocol files.input (λ bytes. next requests bytes))

-- the input of a program that asks for one
abbrev pub if_asked : Bool → List ℕ → Option (List ℕ)
if_asked true bytes = Some bytes
if_asked false bytes = None

-- an image, which asks for an input or not, with the files and the limits of a run
abbrev pub machine_protocol : Files → Limits → List ℕ → List ℕ → Bool → Protocol
machine_protocol files limits code user_data asks =
    requests_protocol files.interrupts (λ requests.
    input_protocol files.input (λ bytes.
    Answers (image_answer code user_data (if_asked asks bytes) requests limits)))
