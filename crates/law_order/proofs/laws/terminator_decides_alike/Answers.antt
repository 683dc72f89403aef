use Rattle.law_order.proofs.Split.{decides_alike}
use Rattle.law_order.proofs.laws.terminator_decides_alike.Goals as goal

pub returns : goal.returns
returns c = decides_alike
