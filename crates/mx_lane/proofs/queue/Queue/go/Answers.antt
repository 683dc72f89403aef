use Rattle.std.proofs.Common.{◌+◌, ◌-◌, arith, sym, subst}
use Rattle.mx_turn.specs.Decoded.{code_in}
use Rattle.mx_turn.specs.Cycle.{MachineState}
use Rattle.mx_lane.specs.declared.queue.Queue.{Queue}
use Rattle.mx_lane.specs.Lanes.{joined, quietly, InTurn, caught_up}
use Rattle.mx_lane.proofs.Counting.{at_first}
use Rattle.mx_lane.proofs.queue.Queue.go.Goals as goal
use Rattle.mx_lane.proofs.queue.Queue.go.Goals.{After-settle}
use Rattle.mx_lane.proofs.queue.Queue.go.Given as given

-- at first every turn is counted
begins : (g : given.Over) (c : After-settle g) (m : MachineState)
    → InTurn g.C.FetchCache.holds (code_in c.args.code.now) m (joined c.args.self.now c.args.lane.now) c.args.board.now c.args.cache.now
    → InTurn g.C.FetchCache.holds (code_in c.args.code.now) m (joined (caught_up c.args.most c.args.self.now) c.args.lane.now) c.args.board.now
    c.args.cache.now
begins g c m h =
    subst (λ (q : Queue). InTurn g.C.FetchCache.holds (code_in c.args.code.now) m (joined q c.args.lane.now) c.args.board.now c.args.cache.now)
    (sym (at_first c.args.self.now c.args.most c.requires.mark)) h

pub returns-clause-next : goal.returns-clause-next
returns-clause-next g c = λ m h.
    subst (λ (q : Queue). InTurn g.C.FetchCache.holds (code_in c.args.code.now)
    (quietly (code_in c.args.code.now) c.args.board.now.input (c.args.most - c.in_ok-left.left) m) (joined q c.turns.new.lane) c.turns.new.board
    c.turns.new.cache)
    (sym c.settle.ensures) (c.in_ok-left.ensures.next m (begins g c m h))

pub returns-clause-console : goal.returns-clause-console
returns-clause-console g c = λ m h. c.in_ok-left.ensures.console m (begins g c m h)
