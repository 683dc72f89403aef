use Rattle.law_link.proofs.Shown.{later}
use Rattle.law_link.proofs.laws.later_blocks_start_later.Goals as goal

pub returns : goal.returns
returns c = later
