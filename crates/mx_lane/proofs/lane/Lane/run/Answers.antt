use Rattle.std.proofs.Common.{◌+◌, sym, ap, ◌∙◌, subst}
use Rattle.mx_turn.specs.Decoded.{code_in}
use Rattle.mx_turn.specs.Cycle.{MachineState}
use Rattle.mx_lane.specs.declared.lane.Lane.{Lane}
use Rattle.mx_lane.specs.Lanes.{joined, quietly, InTurn}
use Rattle.mx_lane.proofs.lane.Lane.run.Goals as goal
use Rattle.mx_lane.proofs.lane.Lane.run.Goals.{After-take}
use Rattle.mx_lane.proofs.lane.Lane.run.Given as given

-- the lane with its queue apart is in the turn that the lane is in
apart : (g : given.Over) (c : After-take g) (m : MachineState)
    → InTurn g.C.FetchCache.holds (code_in c.args.code.now) m c.args.self.now c.args.board.now c.args.cache.now
    → InTurn g.C.FetchCache.holds (code_in c.args.code.now) m (joined c.queue-queue.result c.args.self.now) c.args.board.now c.args.cache.now
apart g c m h =
    subst (λ (l : Lane). InTurn g.C.FetchCache.holds (code_in c.args.code.now) m l c.args.board.now c.args.cache.now)
    (sym c.queue-queue.ensures.joined) h

pub returns-clause-next : goal.returns-clause-next
returns-clause-next g c = λ m h.
    subst (λ (l : Lane). InTurn g.C.FetchCache.holds (code_in c.args.code.now)
    (quietly (code_in c.args.code.now) c.args.board.now.input c.in_ok-done.done m) l c.go.new.board c.go.new.cache)
    (sym c.take.ensures) (c.in_ok-done.ensures.next m (apart g c m h))

pub returns-clause-console : goal.returns-clause-console
returns-clause-console g c = λ m h. c.in_ok-done.ensures.console m (apart g c m h)

pub returns-clause-risen : goal.returns-clause-risen
returns-clause-risen g c =
    ap (λ (l : Lane). l.counts.cycles) c.take.ensures
    ∙ c.in_ok-done.ensures.risen
    ∙ ap (λ x. x.cycles + c.in_ok-done.done) c.queue-queue.ensures.counts
