use Rattle.law_interrupts.proofs.Ends.{undisturbed}
use Rattle.law_interrupts.proofs.laws.undisturbed_run_gets_on.Goals as goal

pub returns : goal.returns
returns c = undisturbed
