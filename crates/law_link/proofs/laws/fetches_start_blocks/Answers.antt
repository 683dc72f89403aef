use Rattle.law_link.proofs.Shown.{fetches}
use Rattle.law_link.proofs.laws.fetches_start_blocks.Goals as goal

pub returns : goal.returns
returns c = fetches
