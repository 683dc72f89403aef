-- What becomes of a request.
use Rattle.std.specs.Prelude.{◌≡◌, ◌≢◌, ℕ, List, [], ◌∷◌, ◌++◌, take, codes, true, false, Option, None, Ok, Err}
use Rattle.mx_io.specs.Counts.{Rose}
use Rattle.mx_io.specs.Reads.{Read, read_of}
use Rattle.mx_io.specs.declared.ShelfFault.{ShelfFault}
use Rattle.mx_io.specs.declared.ShelfFault.TheVariants.{Memory}
use Rattle.serde_json.specs.Data.{Data}
use Rattle.lab_request.specs.declared.WorkbenchCommand.{WorkbenchCommand}
use Rattle.lab_request.specs.declared.Response.{Response}
use Rattle.lab_request.specs.Fields.{command_named}
use Rattle.lab_request.specs.Answers.{Reads, Refuses, Comes, not_json, refusal_of}
use Rattle.mx_serve.specs.declared.serving.Served.{Served}
use Rattle.mx_serve.specs.declared.serving.Served.TheVariants.{Answered, Refused, Unread, Unprinted, NoMemory}
use Rattle.mx_serve.specs.Ends.{ends_in}

abbrev pub standard_input : List ℕ
standard_input = codes "/dev/stdin"

-- how many bytes a body has at most
abbrev pub most_body : ℕ
most_body = 4194304

-- the command that the first of the arguments names
abbrev pub command_in : List (List ℕ) → Option WorkbenchCommand
command_in [] = None
command_in (word ∷ rest) = command_named word

-- the exit status of the program
abbrev pub served_number : Served → ℕ
served_number Answered = 0
served_number Refused = 1
served_number Unread = 4
served_number Unprinted = 5
served_number NoMemory = 6

-- the document of an answer was printed, and it is a refusal or none; or a write was refused, and a prefix of it was printed
abbrev pub IsPrinted : Response → List ℕ → List ℕ → ℕ → ℕ → Served → Type 0
IsPrinted answer out out' faults faults' Answered = (answer.is_refused ≡ false) × (out' ≡ out ++ answer.document.items)
IsPrinted answer out out' faults faults' Refused = (answer.is_refused ≡ true) × (out' ≡ out ++ answer.document.items)
IsPrinted answer out out' faults faults' Unprinted = Rose faults faults' × (n : ℕ) × (out' ≡ out ++ take n answer.document.items)
IsPrinted answer out out' faults faults' Unread = ⊥
IsPrinted answer out out' faults faults' NoMemory = ⊥

-- the body was read, and what was printed is the answer to it, or where a write was refused a prefix of that answer
pub record Serves (command : WorkbenchCommand) (log log' : List Read) (out out' : List ℕ) (faults faults' : ℕ) (served : Served) : Type 0 where
  pub body : List ℕ
  pub read : log' ≡ log ++ read_of standard_input most_body (Ok body) ∷ []
  pub answer : Response
  pub not_json : ((d : Data) → ¬ Reads body d) → Refuses not_json answer
  pub comes : (d : Data) → Reads body d → Comes ends_in command d (refusal_of command d) answer
  pub printed : IsPrinted answer out out' faults faults' served

-- the read of the body failed or found it too long, and nothing was printed
pub record IsUnread (log log' : List Read) (out out' : List ℕ) : Type 0 where
  pub fault : ShelfFault
  pub cause : fault ≢ Memory
  pub read : log' ≡ log ++ read_of standard_input most_body (Err fault) ∷ []
  pub silent : out' ≡ out

-- what became of a request; where memory ran out nothing was printed
abbrev pub IsServed : WorkbenchCommand → List Read → List Read → List ℕ → List ℕ → ℕ → ℕ → Served → Type 0
IsServed command log log' out out' faults faults' Unread = IsUnread log log' out out'
IsServed command log log' out out' faults faults' NoMemory = out' ≡ out
IsServed command log log' out out' faults faults' served = Serves command log log' out out' faults faults' served
