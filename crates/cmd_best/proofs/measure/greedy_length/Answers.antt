use Rattle.std.proofs.Common.{sym, ◌∙◌}
use Rattle.cmd_best.proofs.Plans.{greedy_length_is}
use Rattle.cmd_best.proofs.measure.greedy_length.Goals as goal

pub returns-clause-value : goal.returns-clause-value
returns-clause-value c = c.len.ensures.value ∙ sym (greedy_length_is c.args.block.now c.propose-plan.result c.propose-plan.ensures.proposes)
