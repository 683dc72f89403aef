use Rattle.std.proofs.Common.{◌∙◌}
use Rattle.mx_report.proofs.Rising.{first_not_before}
use Rattle.mx_report.proofs.cursor.Cursor.at.Goals as goal

pub returns : goal.returns
returns c = (c.requests_before-place.ensures ∙ first_not_before c.args.list.now c.requires.ascending c.args.cycle, c.next_at.ensures)
