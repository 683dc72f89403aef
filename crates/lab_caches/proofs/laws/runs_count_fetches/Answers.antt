use Rattle.lab_caches.proofs.Counts.{runs_count_fetches}
use Rattle.lab_caches.proofs.laws.runs_count_fetches.Goals as goal

pub returns : goal.returns
returns c = runs_count_fetches
