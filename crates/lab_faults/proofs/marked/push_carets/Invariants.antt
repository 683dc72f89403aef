use Rattle.std.proofs.Common.{◌≡◌, ◌++◌, map, drop}
use Rattle.lab_faults.specs.Checked.{caret}
use Rattle.lab_faults.proofs.marked.push_carets.Given as goal

abbrev pub invariant-loop-byte : goal.invariant-loop-byte
invariant-loop-byte l = l.marks.items ++ map caret (drop l.byte-index l.token) ≡ l.fn.marks.items ++ map caret l.token
