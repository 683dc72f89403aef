use Rattle.law_operations.proofs.Operations.{operation_values}
use Rattle.law_operations.proofs.laws.operation_gives.Goals as goal

pub returns : goal.returns
returns c = operation_values
