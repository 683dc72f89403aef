use Rattle.law_counts.proofs.Counted.{code_counts}
use Rattle.law_counts.proofs.laws.linked_code_counts.Goals as goal

pub returns : goal.returns
returns c = code_counts
