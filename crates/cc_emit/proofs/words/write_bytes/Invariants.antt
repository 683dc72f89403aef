use Rattle.std.proofs.Common.{◌≡◌, take}
use Rattle.cc_emit.specs.Images.{overlay}
use Rattle.cc_emit.proofs.words.write_bytes.Given as goal

abbrev pub invariant-loop-i : goal.invariant-loop-i
invariant-loop-i l = l.bytes ≡ overlay l.at (take l.i l.new) l.initial.bytes
