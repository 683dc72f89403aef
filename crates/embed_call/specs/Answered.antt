-- What a call asks for, and what is known of its answer.
use Rattle.std.specs.Prelude.{◌≡◌, ◌≢◌, ℕ, List, [], true, false, Option, Some, None}
use Rattle.std.specs.Str.Lines.{lines}
use Rattle.cmd_answer.specs.declared.Status.{Status}
use Rattle.cmd_answer.specs.declared.Status.TheVariants.{ReadFault, WriteFault, Memory}
use Rattle.cmd_answer.specs.Answer.{Written}
use Rattle.cmd_answer.specs.Protocol.{Protocol, Answers, Reads, resolved}
use Rattle.cmd_table.specs.Commands.{Command}
use Rattle.cmd_table.specs.Asked.{command_of}
use Rattle.mx_command.specs.Layouts.{command_protocol}
use Rattle.mx_command.specs.Accepted.{Held, Holds, Accepted}
use Rattle.mx_command.specs.Headline.{Headline}
use Rattle.mx_command.specs.Pairs.{AcceptedPair, PairHeadline}
use Rattle.mx_command.specs.Stops.{AcceptedStops, StopsHeadline}
use Rattle.mx_command.specs.Joins.{AcceptedModules, JoinHeadline}
use Rattle.mx_command.specs.Measures.{AcceptedBest, BestHeadline}
use Rattle.mx_command.specs.Writing.{writes_a_file}
use Rattle.embed_call.specs.declared.call.Call.{Call}

-- what the words of a call, one on each line, ask for
abbrev pub asked_by : Call → Option Command
asked_by call = command_of (lines call.words.now)

-- the bytes of the file that an answer writes; none where it writes no file
abbrev pub file_bytes : Option Written → List ℕ
file_bytes None = []
file_bytes (Some file) = file.bytes

-- each file that is read is there, and is within its limit
abbrev pub FindsItsFiles : Held → Protocol → Type 0
FindsItsFiles held (Answers answer) = Unit {0}
FindsItsFiles held (Reads kind name next) = (bytes : List ℕ) × Holds held kind name bytes × FindsItsFiles held (next bytes)

-- The status, the output and the file of a command over files that are held: the answer of `command` on a shelf that holds just these.
pub record Answered (asked : Option Command) (held : Held) (result : Status) (text written : List ℕ) : Type 0 where
  -- they are those of the answer
  pub status : result ≡ (resolved (command_protocol asked) held).status
  pub output : text ≡ (resolved (command_protocol asked) held).output
  pub file : writes_a_file asked ≡ true → written ≡ file_bytes (resolved (command_protocol asked) held).file
  pub no_file : writes_a_file asked ≡ false → written ≡ []
  -- where they ask for the run of a source that is accepted, for that of two, for the stops of one, for the join of modules, or for the
  -- lengths of plans: all that is promised of these
  pub headline : (accepted : Accepted asked held) → Headline asked held accepted result [] text
  pub pair : (accepted : AcceptedPair asked held) → PairHeadline asked held accepted result [] text
  pub stops : (accepted : AcceptedStops asked held) → StopsHeadline asked held accepted result [] text
  pub modules : (accepted : AcceptedModules asked held) → JoinHeadline asked held accepted result [] text
  pub best : (accepted : AcceptedBest asked held) → BestHeadline asked held accepted result [] text
  -- it is no fault of writing and no want of memory, and no fault of reading where each file that is read is held and within its limit
  pub no_write_fault : result ≢ WriteFault
  pub no_memory : result ≢ Memory
  pub no_read_fault : FindsItsFiles held (command_protocol asked) → result ≢ ReadFault
