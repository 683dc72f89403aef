use Rattle.law_link.proofs.Shown.{blocks_start}
use Rattle.law_link.proofs.laws.linked_blocks_start.Goals as goal

pub returns : goal.returns
returns c = blocks_start
