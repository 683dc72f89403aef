use Rattle.std.proofs.Common.{◌≡◌, ◌++◌, map, take}
use Rattle.lab_request.specs.Documents.{comma_for_feed}
use Rattle.lab_request.proofs.bytes.push_commas.Given as goal

abbrev pub invariant-loop-byte : goal.invariant-loop-byte
invariant-loop-byte l = l.text.items ≡ l.initial.text.items ++ map comma_for_feed (take l.byte-index l.bytes)
