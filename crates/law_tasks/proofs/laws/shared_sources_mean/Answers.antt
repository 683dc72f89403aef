use Rattle.law_tasks.proofs.Sources.{sources_mean}
use Rattle.law_tasks.proofs.laws.shared_sources_mean.Goals as goal

pub returns : goal.returns
returns g c = sources_mean g.P.Proposer.proposes
