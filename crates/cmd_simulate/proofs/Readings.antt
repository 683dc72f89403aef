-- What the calls that read the files of a run say of their results, as `FileRefused` and `FileGiven` of `cmd_source` do of a file.
use Rattle.std.proofs.Common.{ℕ, List, Option}
use Rattle.cmd_answer.specs.Answer.{Answer}
use Rattle.mx_io.specs.Shelves.{Told, Counts}
use Rattle.cmd_answer.specs.Protocol.{Protocol, Performed}
use Rattle.cmd_options.specs.Options.{Files}
use Rattle.cmd_simulate.specs.Machines.{requests_protocol, input_protocol, files_protocol}

-- both files
abbrev pub FilesRefused : Told → Files → Counts → Counts → Answer → Type 0
FilesRefused told files before between answer =
    (next : List ℕ → List ℕ → Protocol) → Performed told (files_protocol files next) before between answer

-- the requests
abbrev pub RequestsRefused : Told → Option (List ℕ) → Counts → Counts → Answer → Type 0
RequestsRefused told name before between answer = (next : List ℕ → Protocol) → Performed told (requests_protocol name next) before between answer

-- the input
abbrev pub InputRefused : Told → Option (List ℕ) → Counts → Counts → Answer → Type 0
InputRefused told name before between answer = (next : List ℕ → Protocol) → Performed told (input_protocol name next) before between answer
