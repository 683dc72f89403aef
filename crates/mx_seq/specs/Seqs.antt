-- What contracts see of a run of the meaning.
use Rattle.mx_source.specs.Meaning.{Program, State}
use Rattle.mx_seq.specs.Executions.{execution_state}
use Rattle.mx_seq.specs.declared.seq.Seq.{Seq}

-- what a Seq executes
abbrev pub program_of : Seq → Program
program_of s = s.program

-- the state in which it is
abbrev pub state_of : Seq → State
state_of s = execution_state s.execution
