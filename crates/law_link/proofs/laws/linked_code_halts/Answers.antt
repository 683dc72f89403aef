use Rattle.law_link.proofs.Shown.{halts}
use Rattle.law_link.proofs.laws.linked_code_halts.Goals as goal

pub returns : goal.returns
returns c = halts
