-- The answer of the program as it is shipped, by what the system gave.
use Rattle.std.specs.Prelude.{◌≢◌, ℕ, List}
use Rattle.mx_io.specs.Reads.{Read}
use Rattle.cmd_answer.specs.declared.Status.{Status}
use Rattle.cmd_answer.specs.declared.Status.TheVariants.{WriteFault, Memory}
use Rattle.cmd_answer.specs.Answer.{Answer}
use Rattle.cmd_answer.specs.Logged.{answer_by}
use Rattle.cmd_table.specs.Asked.{command_of}
use Rattle.mx_command.specs.Layouts.{command_protocol}

-- all that was put out or written was taken, and memory did not run out
abbrev pub IsTaken : Status → Type 0
IsTaken result = (result ≢ WriteFault) × (result ≢ Memory)

-- the answer that the words ask for, by what each read gave
abbrev pub answer_on : List (List ℕ) → List Read → Answer
answer_on words reads = answer_by (command_protocol (command_of words)) reads
