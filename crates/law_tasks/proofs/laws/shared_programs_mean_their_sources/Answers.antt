use Rattle.law_tasks.proofs.Meant.{means}
use Rattle.law_tasks.proofs.laws.shared_programs_mean_their_sources.Goals as goal

pub returns : goal.returns
returns c = means
