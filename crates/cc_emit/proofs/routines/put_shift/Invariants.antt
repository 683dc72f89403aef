use Rattle.std.proofs.Common.{◌≡◌, ◌++◌}
use Rattle.cc_emit.specs.Routines.{shifts_lines}
use Rattle.cc_emit.proofs.routines.put_shift.Given as goal

abbrev pub invariant-loop-count : goal.invariant-loop-count
invariant-loop-count l = record {
  lines : l.out.lines.items ≡ l.initial.out.lines.items ++ shifts_lines l.which l.count;
  routines : l.out.routines ≡ l.initial.out.routines;
}
