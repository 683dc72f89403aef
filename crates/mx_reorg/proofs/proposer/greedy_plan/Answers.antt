use Rattle.mx_reorg.proofs.Choices.{heights_known}
use Rattle.mx_reorg.proofs.Unique.{greedy_unique}
use Rattle.mx_reorg.proofs.ValidPlans.{greedy_valid}
use Rattle.mx_reorg.proofs.proposer.greedy_plan.Goals as goal

pub returns-clause-only : goal.returns-clause-only
returns-clause-only c = λ plan h.
    greedy_unique c.args.block.now (heights_known c.args.block.now c.args.graph.now c.requires.graph) plan c.finished.result h c.finished.ensures

pub returns-clause-valid : goal.returns-clause-valid
returns-clause-valid c =
    greedy_valid c.args.block.now c.finished.result c.finished.ensures (heights_known c.args.block.now c.args.graph.now c.requires.graph)
