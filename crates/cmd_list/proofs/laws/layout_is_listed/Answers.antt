use Rattle.cmd_list.proofs.Listed.{listing-linked}
use Rattle.cmd_list.proofs.laws.layout_is_listed.Goals as goal

pub returns : goal.returns
returns g c = λ source place l k none. listing-linked g.P.Proposer.proposes source place l k none
