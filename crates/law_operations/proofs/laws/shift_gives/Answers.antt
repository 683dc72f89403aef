use Rattle.law_operations.proofs.Operations.{shift_values}
use Rattle.law_operations.proofs.laws.shift_gives.Goals as goal

pub returns : goal.returns
returns c = shift_values
