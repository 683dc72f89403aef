-- All that is promised of a command, where its names hold this.
use Rattle.std.specs.Prelude.{List, ℕ, Option}
use Rattle.mx_io.specs.Shelves.{Told}
use Rattle.cmd_answer.specs.declared.Status.{Status}
use Rattle.cmd_answer.specs.Protocol.{resolved}
use Rattle.cmd_answer.specs.Delivery.{Delivered}
use Rattle.cmd_table.specs.Commands.{Command}
use Rattle.mx_command.specs.Layouts.{command_protocol}
use Rattle.mx_command.specs.Accepted.{Held, Accepted}
use Rattle.mx_command.specs.Headline.{Headline}
use Rattle.mx_command.specs.Pairs.{AcceptedPair, PairHeadline}
use Rattle.mx_command.specs.Stops.{AcceptedStops, StopsHeadline}
use Rattle.mx_command.specs.Joins.{AcceptedModules, JoinHeadline}
use Rattle.mx_command.specs.Measures.{AcceptedBest, BestHeadline}

-- the answer by what they hold came out; and of a run of a source that is accepted, of two, of the stops of one, of modules and of the
-- lengths of plans, all that their headlines say
pub record Promised (asked : Option Command) (held : Held) (result : Status) (told told' : Told) (before after : List ℕ) : Type 0 where
  pub delivered : Delivered (resolved (command_protocol asked) held) result told told' before after
  pub headline : (accepted : Accepted asked held) → Headline asked held accepted result before after
  pub pair : (accepted : AcceptedPair asked held) → PairHeadline asked held accepted result before after
  pub stops : (accepted : AcceptedStops asked held) → StopsHeadline asked held accepted result before after
  pub modules : (accepted : AcceptedModules asked held) → JoinHeadline asked held accepted result before after
  pub best : (accepted : AcceptedBest asked held) → BestHeadline asked held accepted result before after
