use Rattle.std.proofs.Common.{◌≡◌, ◌+◌, drop}
use Rattle.cc_meaning.specs.Start.{with_bytes}
use Rattle.cc_meaning.proofs.data.put_bytes.Given as goal

-- the bytes that are left make of memory what all make of it
abbrev pub invariant-loop-byte : goal.invariant-loop-byte
invariant-loop-byte l = record {
  at : l.at ≡ l.start + l.byte-index;
  rest : with_bytes l.memory.items l.at (drop l.byte-index l.bytes) ≡ with_bytes l.initial.memory.items l.start l.bytes;
}
