-- A reply performs what its command reads and answers.
use Rattle.std.specs.Prelude.{Result}
use Rattle.mx_io.specs.Shelves.{Told, Counts}
use Rattle.cmd_answer.specs.declared.Reply.{Reply}
use Rattle.cmd_answer.specs.declared.Failure.{Failure}
use Rattle.cmd_answer.specs.Protocol.{Protocol, Performed}
use Rattle.cmd_answer.specs.Replies.{OnAnswer}
use Rattle.law_schedule.specs.Schedule.{IsScheduler}
use Rattle.cmd_source.specs.Protocols.{Layouts}

-- the protocol that comes of the layouts of sources is performed, whatever gives the layout of each
abbrev pub Performs : (Layouts → Protocol) → Result Reply Failure → Told → Counts → Counts → Type 0
Performs protocol outcome told before after =
    (layout_of : Layouts) → IsScheduler layout_of → OnAnswer outcome (Performed told (protocol layout_of) before after)
