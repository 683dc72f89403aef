use Rattle.mx_tasks.proofs.Near.{short_sources_reach}
use Rattle.mx_tasks.proofs.laws.short_sources_reach.Goals as goal

pub returns : goal.returns
returns g c = short_sources_reach g.P.Proposer.proposes
