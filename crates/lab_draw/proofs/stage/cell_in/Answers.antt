use Rattle.std.proofs.Common.{◌∙◌}
use Rattle.lab_draw.proofs.Cells.{cell_is_defined}
use Rattle.lab_draw.proofs.stage.cell_in.Goals as goal

pub returns-clause-defined : goal.returns-clause-defined
returns-clause-defined c = λ p requests n is. c.shown_cell.ensures ∙ cell_is_defined p requests n c.args.frame.now is c.args.fetch
