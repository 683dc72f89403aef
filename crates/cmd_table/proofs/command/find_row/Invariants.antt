use Rattle.std.proofs.Common.{◌≡◌, drop}
use Rattle.cmd_table.proofs.Table.{found}
use Rattle.cmd_table.proofs.command.find_row.Given as goal

abbrev pub invariant-loop-row : goal.invariant-loop-row
invariant-loop-row l = found l.first l.rows ≡ found l.first (drop l.row-index l.rows)
