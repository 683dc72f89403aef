use Rattle.std.proofs.Common.{◌≡◌, ◌++◌, take}
use Rattle.std.specs.List.{flat_map}
use Rattle.cc_emit.specs.Routines.{row_lines}
use Rattle.cc_emit.proofs.routines.put_rows.Given as goal

abbrev pub invariant-loop-row : goal.invariant-loop-row
invariant-loop-row l = record {
  lines : l.out.lines.items ≡ l.initial.out.lines.items ++ flat_map row_lines (take l.row-index l.rows);
  routines : l.out.routines ≡ l.initial.out.routines;
}
