use Rattle.mx_depend.proofs.Paths.{IsHeightBelow}
use Rattle.mx_depend.proofs.graph.height_of.Given as goal

abbrev pub invariant-loop-y : goal.invariant-loop-y
invariant-loop-y l = IsHeightBelow l.insts l.input l.x l.y l.greatest
