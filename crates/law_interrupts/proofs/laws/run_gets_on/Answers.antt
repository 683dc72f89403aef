use Rattle.law_interrupts.proofs.Ends.{gets_on}
use Rattle.law_interrupts.proofs.laws.run_gets_on.Goals as goal

pub returns : goal.returns
returns c = gets_on
