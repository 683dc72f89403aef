use Rattle.law_link.proofs.Results.{results}
use Rattle.law_link.proofs.laws.results_are_linked.Goals as goal

pub returns : goal.returns
returns g c = results g.P.Proposer.proposes
