use Rattle.cc_lines.specs.Bytes.{Extends}
use Rattle.cc_lines.proofs.quoted.push_quoted.Given as goal

-- what stood there stands there
abbrev pub invariant-loop-byte : goal.invariant-loop-byte
invariant-loop-byte l = Extends l.fn.bytes.items l.bytes.items
