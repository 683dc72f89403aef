use Rattle.lab_profile.proofs.Totals.{sums_are_counts}
use Rattle.lab_profile.proofs.laws.sums_are_counts.Goals as goal

pub returns : goal.returns
returns c = sums_are_counts
