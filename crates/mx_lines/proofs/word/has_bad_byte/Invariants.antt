use Rattle.std.proofs.Common.{◌≡◌, drop}
use Rattle.mx_lines.specs.Words.{has_bad_byte}
use Rattle.mx_lines.proofs.word.has_bad_byte.Given as goal

-- the bytes so far may stand there
abbrev pub invariant-loop-byte : goal.invariant-loop-byte
invariant-loop-byte l = has_bad_byte (drop l.byte-index l.line) ≡ has_bad_byte l.line
