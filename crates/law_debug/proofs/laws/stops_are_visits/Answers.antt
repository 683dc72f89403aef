use Rattle.law_debug.proofs.Whole.{as_meant}
use Rattle.law_debug.proofs.laws.stops_are_visits.Goals as goal

pub returns : goal.returns
returns c = as_meant
