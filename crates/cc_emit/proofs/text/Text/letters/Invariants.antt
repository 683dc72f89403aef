use Rattle.std.proofs.Common.{◌≡◌, ◌++◌, take}
use Rattle.cc_emit.specs.Names.{letters}
use Rattle.cc_emit.proofs.text.Text.letters.Given as goal

abbrev pub invariant-loop-byte : goal.invariant-loop-byte
invariant-loop-byte l = l.self ≡ l.initial.self ++ letters (take l.byte-index l.name)
