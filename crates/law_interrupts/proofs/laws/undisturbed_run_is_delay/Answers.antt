use Rattle.law_interrupts.proofs.Ends.{undisturbed_as}
use Rattle.law_interrupts.proofs.laws.undisturbed_run_is_delay.Goals as goal

pub returns : goal.returns
returns c = undisturbed_as
