use Rattle.law_emit.proofs.Routines.{routines_fit, routines_same}
use Rattle.law_emit.proofs.laws.routines_fit.Goals as goal

pub returns : goal.returns
returns c = record { fit = routines_fit; text = routines_same }
