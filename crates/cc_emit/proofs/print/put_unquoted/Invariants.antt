use Rattle.std.proofs.Common.{◌≡◌, ◌++◌, take, not, ◌==◌}
use Rattle.std.specs.List.{filter}
use Rattle.cc_emit.proofs.print.put_unquoted.Given as goal

abbrev pub invariant-loop-byte : goal.invariant-loop-byte
invariant-loop-byte l = l.text ≡ l.initial.text ++ filter (λ b. not (b == 34)) (take l.byte-index l.quoted)
