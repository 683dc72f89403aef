-- The greedy layout as a function is that of each source.
use Rattle.law_schedule.proofs.Scheduler.{scheduler}
use Rattle.law_schedule.specs.Schedule.{IsScheduler}
use Rattle.mx_command.specs.Layouts.{greedy_layout}

pub greedy_is : IsScheduler greedy_layout
unfolding greedy_layout
greedy_is = scheduler.1
