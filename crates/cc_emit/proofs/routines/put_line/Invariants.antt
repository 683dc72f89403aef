use Rattle.std.proofs.Common.{◌≡◌, ◌++◌}
use Rattle.std.specs.Prelude.{replicate}
use Rattle.cc_emit.proofs.routines.put_line.Given as goal

abbrev pub invariant-loop-done : goal.invariant-loop-done
invariant-loop-done l = record {
  lines : l.out.lines.items ≡ l.initial.out.lines.items ++ replicate l._done l.line;
  routines : l.out.routines ≡ l.initial.out.routines;
}
