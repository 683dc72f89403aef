use Rattle.std.proofs.Common.{◌∙◌}
use Rattle.lab_draw.proofs.Cells.{stage_is_defined}
use Rattle.lab_draw.proofs.stage.stage_in.Goals as goal

pub returns-clause-defined : goal.returns-clause-defined
returns-clause-defined c = λ p requests n is. c.shown_stage.ensures ∙ stage_is_defined p requests n c.args.frame.now is c.args.fetch
