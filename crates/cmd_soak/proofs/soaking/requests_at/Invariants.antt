use Rattle.std.proofs.Common.{◌≡◌}
use Rattle.cmd_soak.specs.Soak.{multiples}
use Rattle.cmd_soak.proofs.soaking.requests_at.Given as goal

abbrev pub invariant-loop-i : goal.invariant-loop-i
invariant-loop-i l = l.cycles.items ≡ multiples l.interval l.i
