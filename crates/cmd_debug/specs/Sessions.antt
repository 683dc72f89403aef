-- The answer of a session with an image, and the files that it reads.
use Rattle.std.specs.Prelude.{ℕ, Bool, List, Option}
use Rattle.cmd_answer.specs.declared.Status.{Status}
use Rattle.cmd_answer.specs.declared.Status.TheVariants as status
use Rattle.cmd_answer.specs.Answer.{Answer, prints}
use Rattle.cmd_answer.specs.Protocol.{Protocol, Answers}
use Rattle.mx_turn.specs.Handler.{shipped}
use Rattle.mx_turn.specs.Program.{program_of}
use Rattle.mx_debug.specs.declared.Ending.{Ending}
use Rattle.mx_debug.specs.declared.Ending.TheVariants.{Stopped, Halted, OutOfBudget}
use Rattle.mx_debug.specs.Sessions.{Session, session, stops_of, ending_of, console_of}
use Rattle.cmd_options.specs.declared.SessionLimits.{SessionLimits}
use Rattle.cmd_options.specs.Options.{Files}
use Rattle.cmd_simulate.specs.Machines.{if_asked, requests_protocol, input_protocol}
use Rattle.cmd_debug.specs.Texts.{session_text}

abbrev pub status_of : Ending → Status
status_of Stopped = status.Done
status_of Halted = status.Halted
status_of OutOfBudget = status.OutOfBudget

-- the answer of a session
unfoldable pub session_answer : Session → Answer
session_answer s = prints (status_of (ending_of s)) (session_text s.watch (stops_of s) (ending_of s) (console_of s))

-- of an image under the shipped handler, with an input or none, stopped at an address
abbrev pub image_answer : List ℕ → List ℕ → Option (List ℕ) → List ℕ → ℕ → SessionLimits → Answer
image_answer code user_data input requests address limits =
    session_answer (session (program_of shipped code user_data input) requests address limits.stops limits.watch limits.budget)

-- an image, which asks for an input or not, with the files of a session
abbrev pub session_protocol : Files → SessionLimits → List ℕ → List ℕ → Bool → ℕ → Protocol
session_protocol files limits code user_data asks address =
    requests_protocol files.interrupts (λ requests.
    input_protocol files.input (λ bytes.
    Answers (image_answer code user_data (if_asked asks bytes) requests address limits)))
