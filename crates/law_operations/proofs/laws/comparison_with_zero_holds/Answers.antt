use Rattle.law_operations.proofs.Comparisons.{negative_holds, zero_holds, not_zero_holds}
use Rattle.law_operations.proofs.laws.comparison_with_zero_holds.Goals as goal

pub returns : goal.returns
returns c = record { negative = negative_holds; zero = zero_holds; not_zero = not_zero_holds }
