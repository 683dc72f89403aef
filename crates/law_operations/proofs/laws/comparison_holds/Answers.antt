use Rattle.law_operations.proofs.Comparisons.{below_holds}
use Rattle.law_operations.proofs.laws.comparison_holds.Goals as goal

pub returns : goal.returns
returns c = below_holds
