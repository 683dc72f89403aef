use Rattle.lab_blocks.proofs.Spans.{IsSpanBelow}
use Rattle.lab_blocks.proofs.bound.span_of.Given as goal

abbrev pub invariant-loop-y : goal.invariant-loop-y
invariant-loop-y l = IsSpanBelow l.block l.x l.y l.greatest
