-- How the commands of requests end.
use Rattle.std.specs.Prelude.{◌≡◌, ℕ, List, []}
use Rattle.cmd_answer.specs.declared.Status.{Status}
use Rattle.cmd_answer.specs.Exit.{exit_number}
use Rattle.cmd_table.specs.Asked.{command_of}
use Rattle.embed_call.specs.Answered.{Answered}
use Rattle.lab_request.specs.declared.WorkbenchCommand.{WorkbenchCommand}
use Rattle.lab_request.specs.declared.WorkbenchCommand.TheVariants.{Check, Run, Explain, Draw, Profile, Compare, Disassemble, Blocks, Planned, Caches, Sweep}
use Rattle.lab_request.specs.Requests.{Held}

-- a command of the toolchain: its words are answered over its files, with all that is promised of that answer, and nothing goes to
-- standard error
pub record RunEnds (words : List (List ℕ)) (held : Held) (status : ℕ) (output errors : List ℕ) : Type 0 where
  pub how : Status
  pub written : List ℕ
  pub answered : Answered (command_of words) held how output written
  pub number : status ≡ exit_number how
  pub quiet : errors ≡ []

-- of the laboratory's commands nothing is said here
abbrev pub ends_in : WorkbenchCommand → List (List ℕ) → Held → ℕ → List ℕ → List ℕ → Type 0
ends_in Run words held status output errors = RunEnds words held status output errors
ends_in Check words held status output errors = Unit {0}
ends_in Explain words held status output errors = Unit {0}
ends_in Draw words held status output errors = Unit {0}
ends_in Profile words held status output errors = Unit {0}
ends_in Compare words held status output errors = Unit {0}
ends_in Disassemble words held status output errors = Unit {0}
ends_in Blocks words held status output errors = Unit {0}
ends_in Planned words held status output errors = Unit {0}
ends_in Caches words held status output errors = Unit {0}
ends_in Sweep words held status output errors = Unit {0}
