use Rattle.law_interrupts.proofs.Saves.{saves_all}
use Rattle.law_interrupts.proofs.laws.interrupt_saves.Goals as goal

pub returns : goal.returns
returns c = saves_all
