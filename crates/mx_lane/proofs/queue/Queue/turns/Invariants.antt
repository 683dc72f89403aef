use Rattle.std.proofs.Common.{◌≡◌, ◌≤◌, ◌+◌, ◌-◌, ◌++◌}
use Rattle.mx_turn.specs.Decoded.{code_in}
use Rattle.mx_turn.specs.Cycle.{MachineState}
use Rattle.mx_lane.specs.Lanes.{joined, quietly, later_bytes, InTurn, AreKnown, caught_up}
use Rattle.mx_lane.proofs.queue.Queue.turns.Given as goal

-- so many cycles are left of those that were asked for
abbrev pub invariant-loop-left : goal.invariant-loop-left
invariant-loop-left g l = record {
  within : l.left ≤ l.most;
  counted : l.left ≤ l.self.mark;
  total : l.self.counts.cycles + l.self.mark ≡ l.fn.self.counts.cycles + l.fn.self.mark;
  input : l.board.input ≡ l.fn.board.input;
  known : AreKnown g.C.FetchCache.holds l.self l.cache;
  turns : (m : MachineState) → InTurn g.C.FetchCache.holds (code_in l.code) m (joined (caught_up l.most l.fn.self) l.fn.lane) l.fn.board l.fn.cache →
      InTurn g.C.FetchCache.holds (code_in l.code) (quietly (code_in l.code) l.fn.board.input (l.most - l.left) m)
      (joined (caught_up l.left l.self) l.lane) l.board l.cache
      × (l.console.items ≡ l.fn.console.items ++ later_bytes (code_in l.code) l.fn.board.input (l.most - l.left) m);
}

abbrev pub decreases-loop-left : goal.decreases-loop-left
decreases-loop-left g l = l.left
