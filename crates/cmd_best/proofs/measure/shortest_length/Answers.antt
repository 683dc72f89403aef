use Rattle.std.proofs.Common.{sym, ◌∙◌}
use Rattle.cmd_best.proofs.Plans.{shortest_length_is}
use Rattle.cmd_best.proofs.measure.shortest_length.Goals as goal

pub returns-clause-value : goal.returns-clause-value
returns-clause-value c = c.len.ensures.value ∙ sym (shortest_length_is c.args.block.now c.best-plan.result c.best-plan.ensures.shortest)
