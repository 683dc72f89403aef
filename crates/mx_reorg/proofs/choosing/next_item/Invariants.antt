use Rattle.mx_reorg.proofs.Choices.{BestBelow}
use Rattle.mx_reorg.proofs.choosing.next_item.Given as goal

abbrev pub invariant-loop-x : goal.invariant-loop-x
invariant-loop-x l = BestBelow l.block l.before l.x l.best
