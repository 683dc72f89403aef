use Rattle.std.proofs.Common.{◌≤◌}
use Rattle.lab_trace.proofs.running.write_turns.Given as goal

-- no more cycles are counted than there were
abbrev pub invariant-loop-cycle : goal.invariant-loop-cycle
invariant-loop-cycle g l = g.M.Machine.cycles l.machine ≤ l.cycle
