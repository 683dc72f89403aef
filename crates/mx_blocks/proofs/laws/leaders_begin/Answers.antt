use Rattle.mx_blocks.proofs.LeadersBegin.{leaders_begin}
use Rattle.mx_blocks.proofs.laws.leaders_begin.Goals as goal

pub returns : goal.returns
returns c = leaders_begin
