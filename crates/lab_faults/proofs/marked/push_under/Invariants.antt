use Rattle.std.proofs.Common.{◌≡◌, ◌++◌, map, drop}
use Rattle.lab_faults.specs.Checked.{under}
use Rattle.lab_faults.proofs.marked.push_under.Given as goal

abbrev pub invariant-loop-byte : goal.invariant-loop-byte
invariant-loop-byte l = l.marks.items ++ map under (drop l.byte-index l.bytes) ≡ l.fn.marks.items ++ map under l.bytes
