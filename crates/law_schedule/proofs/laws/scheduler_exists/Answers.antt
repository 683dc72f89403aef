use Rattle.law_schedule.proofs.Scheduler.{scheduler}
use Rattle.law_schedule.proofs.laws.scheduler_exists.Goals as goal

pub returns : goal.returns
returns c = scheduler
