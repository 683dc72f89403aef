-- The number with which a program ends, by its status.
use Rattle.std.specs.Prelude.{ℕ}
use Rattle.cmd_answer.specs.declared.status.Status.{Status}
use Rattle.cmd_answer.specs.declared.status.Status.TheVariants.{Halted, Done, Refused, Usage, OutOfBudget, ReadFault, WriteFault, Memory, BadImage, BadEvents, Stuck}

abbrev pub exit_number : Status → ℕ
exit_number Halted = 0
exit_number Done = 0
exit_number Refused = 1
exit_number Usage = 2
exit_number OutOfBudget = 3
exit_number ReadFault = 4
exit_number WriteFault = 5
exit_number Memory = 6
exit_number BadImage = 7
exit_number BadEvents = 8
exit_number Stuck = 9
