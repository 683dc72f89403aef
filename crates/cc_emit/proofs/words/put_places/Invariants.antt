use Rattle.std.proofs.Common.{◌≡◌, ◌++◌}
use Rattle.cc_emit.specs.Data.{shifted_lines}
use Rattle.cc_emit.proofs.words.put_places.Given as goal

abbrev pub invariant-loop-count : goal.invariant-loop-count
invariant-loop-count l = l.text ≡ l.initial.text ++ shifted_lines l.which l.count
