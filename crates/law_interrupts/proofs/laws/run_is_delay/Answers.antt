use Rattle.law_interrupts.proofs.Ends.{runs_as}
use Rattle.law_interrupts.proofs.laws.run_is_delay.Goals as goal

pub returns : goal.returns
returns c = runs_as
