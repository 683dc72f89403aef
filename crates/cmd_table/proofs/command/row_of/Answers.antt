use Rattle.cmd_table.proofs.Table.{row_apart}
use Rattle.cmd_table.proofs.command.row_of.Goals as goal

pub returns-clause-row : goal.returns-clause-row
returns-clause-row c = c.find_row.ensures

pub returns-clause-apart : goal.returns-clause-apart
returns-clause-apart c = row_apart c.args.first.now c.find_row.result c.find_row.ensures
