use Rattle.law_code.proofs.Placed.{placed}
use Rattle.law_code.proofs.laws.code_is_placed.Goals as goal

pub returns : goal.returns
returns c = placed
