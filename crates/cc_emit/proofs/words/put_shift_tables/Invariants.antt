use Rattle.std.proofs.Common.{◌≡◌, ◌++◌, take}
use Rattle.std.specs.List.{flat_map}
use Rattle.cc_emit.specs.Data.{routine_table}
use Rattle.cc_emit.proofs.words.put_shift_tables.Given as goal

abbrev pub invariant-loop-which : goal.invariant-loop-which
invariant-loop-which l = l.text ≡ l.initial.text ++ flat_map (routine_table l.out.routines.items) (take l.which-index l.routines)
