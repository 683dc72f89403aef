-- What each command reads and answers, where each source has its one layout by greedy plans.
use Rattle.std.specs.Prelude.{◌≡◌, List, Option}
use Rattle.mx_source.specs.SourceValue.{SourceValue}
use Rattle.mx_squash.specs.Copies.{Site}
use Rattle.mx_layout.specs.Layout.{IsLayout}
use Rattle.mx_reorg.specs.Greedy.{IsGreedy}
use Rattle.mx_isa.specs.Board.{board}
use Rattle.cmd_answer.specs.Protocol.{Protocol}
use Rattle.law_schedule.proofs.Scheduler.{scheduler}
use Rattle.cmd_table.specs.Commands.{Command}
use Rattle.cmd_source.specs.Protocols.{Layouts}
use Rattle.mx_command.specs.Protocols.{protocol_of}

-- the layout of each source by greedy plans at the board's place (`greedy_layout_is`)
unfoldable pub greedy_layout : Layouts
greedy_layout = scheduler.0

abbrev pub GreedyLayoutIs : Type 0
GreedyLayoutIs = (source : SourceValue) (sites : List Site) → IsLayout IsGreedy source board sites → greedy_layout source ≡ sites

-- what a command reads and answers, in the order in which it is refused
abbrev pub command_protocol : Option Command → Protocol
command_protocol asked = protocol_of greedy_layout asked
