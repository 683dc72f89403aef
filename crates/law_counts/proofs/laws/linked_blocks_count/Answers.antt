use Rattle.law_counts.proofs.Starts.{blocks_count}
use Rattle.law_counts.proofs.laws.linked_blocks_count.Goals as goal

pub returns : goal.returns
returns c = blocks_count
