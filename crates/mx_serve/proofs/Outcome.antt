-- A request that was answered and printed is served.
use Rattle.std.proofs.Common.{◌≡◌, ℕ, List, [], ◌∷◌, ◌++◌, Ok}
use Rattle.mx_io.specs.Reads.{Read, read_of}
use Rattle.serde_json.specs.Data.{Data}
use Rattle.lab_request.specs.declared.WorkbenchCommand.{WorkbenchCommand}
use Rattle.lab_request.specs.declared.Response.{Response}
use Rattle.lab_request.specs.Answers.{Reads, Refuses, Comes, not_json, refusal_of}
use Rattle.mx_serve.specs.declared.serving.Served.{Served}
use Rattle.mx_serve.specs.declared.serving.Served.TheVariants.{Answered, Refused, Unread, Unprinted, NoMemory}
use Rattle.mx_serve.specs.Ends.{ends_in}
use Rattle.mx_serve.specs.Serving.{standard_input, most_body, IsPrinted, IsServed}

pub served_so : (command : WorkbenchCommand) (log log' : List Read) (out out' : List ℕ) (faults faults' : ℕ) (body : List ℕ) (answer : Response)
    → log' ≡ log ++ read_of standard_input most_body (Ok body) ∷ [] → (((d : Data) → ¬ Reads body d) → Refuses not_json answer)
    → ((d : Data) → Reads body d → Comes ends_in command d (refusal_of command d) answer)
    → (served : Served) → IsPrinted answer out out' faults faults' served → IsServed command log log' out out' faults faults' served
served_so command log log' out out' faults faults' body answer read refuses comes Answered printed =
    record { body = body; read = read; answer = answer; not_json = refuses; comes = comes; printed = printed }
served_so command log log' out out' faults faults' body answer read refuses comes Refused printed =
    record { body = body; read = read; answer = answer; not_json = refuses; comes = comes; printed = printed }
served_so command log log' out out' faults faults' body answer read refuses comes Unprinted printed =
    record { body = body; read = read; answer = answer; not_json = refuses; comes = comes; printed = printed }
served_so command log log' out out' faults faults' body answer read refuses comes Unread printed = absurd printed
served_so command log log' out out' faults faults' body answer read refuses comes NoMemory printed = absurd printed
