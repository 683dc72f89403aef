use Rattle.law_end_to_end.proofs.Composed.{filled_run_means}
use Rattle.law_end_to_end.proofs.laws.filled_run_means_its_source.Goals as goal

pub returns : goal.returns
returns c = filled_run_means
