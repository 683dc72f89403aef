use Rattle.lab_blocks.proofs.Spans.{IsBoundBelow}
use Rattle.lab_blocks.proofs.bound.greatest_of.Given as goal

abbrev pub invariant-loop-x : goal.invariant-loop-x
invariant-loop-x l = IsBoundBelow l.block l.x l.greatest
