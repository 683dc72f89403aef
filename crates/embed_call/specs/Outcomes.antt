-- How the answer to a call comes back.
use Rattle.std.specs.Prelude.{◌≡◌, ℕ, List, ◌&&◌, cond, leb, length, min, Option}
use Rattle.cmd_answer.specs.declared.Status.{Status}
use Rattle.cmd_answer.specs.Exit.{exit_number}
use Rattle.cmd_table.specs.Commands.{Command}
use Rattle.mx_command.specs.Accepted.{Held}
use Rattle.embed_call.specs.declared.outcome.Outcome.{Outcome}
use Rattle.embed_call.specs.Answered.{Answered}
use Rattle.embed_call.specs.Buffers.{filled}

-- the numbers of a call that has no answer: for want of memory, the program's, and where its words are not UTF-8; and that of an answer for
-- which a buffer is too short
abbrev pub memory_number : ℕ
memory_number = 6

abbrev pub no_text_number : ℕ
no_text_number = 10

abbrev pub too_short_number : ℕ
too_short_number = 11

-- the number and two texts came back, in two buffers: as much of each as there is room for, and how much there is of it; nothing else of a buffer changed
pub record Returns (number : ℕ) (text written out out' lent lent' : List ℕ) (result : Outcome) : Type 0 where
  pub status : result.status ≡ number
  pub output : result.output ≡ min (length text) (length out)
  pub output_needed : result.output_needed ≡ length text
  pub output_buffer : out' ≡ filled text out
  pub file : result.file ≡ min (length written) (length lent)
  pub file_needed : result.file_needed ≡ length written
  pub file_buffer : lent' ≡ filled written lent

-- the number of a status: the program's, where an output of this length has room, and so has a file, and else that of a buffer that is too short
abbrev pub number_in : Status → ℕ → ℕ → ℕ → ℕ → ℕ
number_in status needed room file_needed file_room = cond (leb needed room && leb file_needed file_room) (exit_number status) too_short_number

-- the answer of `command` came back
pub record IsOutcome (asked : Option Command) (held : Held) (out out' lent lent' : List ℕ) (result : Outcome) : Type 0 where
  pub answer : Status
  pub text : List ℕ
  pub written : List ℕ
  pub answered : Answered asked held answer text written
  pub returned : Returns (number_in answer (length text) (length out) (length written) (length lent)) text written out out' lent lent' result
