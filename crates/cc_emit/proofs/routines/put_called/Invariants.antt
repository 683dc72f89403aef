use Rattle.std.proofs.Common.{◌≡◌, take}
use Rattle.cc_emit.specs.Routines.{Adds, called_texts}
use Rattle.cc_emit.proofs.routines.put_called.Given as goal

abbrev pub invariant-loop-which : goal.invariant-loop-which
invariant-loop-which l = record {
  lines : Adds l.initial.out.lines.items l.out.lines.items (called_texts l.initial.out.routines.items (take l.which-index l.routines));
  routines : l.out.routines ≡ l.initial.out.routines;
}
