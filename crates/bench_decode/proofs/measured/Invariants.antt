use Rattle.std.proofs.Common.{◌≤◌}
use Rattle.bench_decode.proofs.measured.Given as goal

abbrev pub invariant-loop-i : goal.invariant-loop-i
invariant-loop-i l = l.spelled ≤ l._i
