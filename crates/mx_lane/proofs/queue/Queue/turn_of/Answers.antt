use Rattle.std.proofs.Common.{◌≡◌, ◌-◌, false, not, ◌&&◌, ◌++◌, sym, ap, ◌∙◌}
use Rattle.std.specs.Prelude.{slice_index}
use Rattle.mx_isa.specs.declared.inst.Inst.{Inst}
use Rattle.mx_isa.specs.Words.{reg}
use Rattle.mx_isa.specs.Effect.{Decision, decides}
use Rattle.mx_isa.specs.Views.{dest}
use Rattle.mx_delay.specs.Delay.{Code}
use Rattle.mx_icache.specs.Residency.{resident}
use Rattle.mx_turn.specs.Counted.{after_turn}
use Rattle.mx_turn.specs.Stages.{address_of, live}
use Rattle.mx_turn.specs.System.{pops, seen}
use Rattle.mx_turn.specs.Cycle.{MachineState, decision}
use Rattle.mx_lane.specs.declared.lane.Lane.{Lane}
use Rattle.mx_lane.specs.Lanes.{lane_of, joined, caught_up, after_turns, turn_counts, InTurn}
use Rattle.mx_lane.proofs.Turning.{goes_on, sends}
use Rattle.mx_lane.proofs.queue.Queue.turn_of.Goals as goal
use Rattle.mx_lane.proofs.queue.Queue.turn_of.Goals.{After-count}
use Rattle.mx_lane.proofs.queue.Queue.turn_of.Given as given

module _ (g : given.Over) (c : After-count g) (code : Code) (m : MachineState) (does : c.args.inst.now ≡ live code c.args.self.now.alu)
    (h : InTurn g.C.FetchCache.holds code m (joined (caught_up c.args.left c.args.self.now) c.args.lane.now) c.args.board.now c.args.cache.now) where
  abbrev from : Lane
  from = joined (caught_up c.args.left c.args.self.now) c.args.lane.now

  abbrev moved : Lane
  moved = joined (caught_up c.args.left c.step.new.self) c.step.new.lane

  abbrev committed : Lane
  committed = joined (caught_up c.args.left c.step.new.self) c.commit-byte.new.lane

  abbrev counted : Lane
  counted = joined (caught_up (c.args.left - c.count.result) c.count.new.self) c.commit-byte.new.lane

  -- where the word in ALU leads
  abbrev d : Decision
  d = decides c.args.inst.now (address_of c.args.self.now.alu) (seen c.args.lane.now.registers.slot (slice_index c.args.lane.now.registers.file))

  leads : d ≡ decision code (lane_of from c.args.board.now h.past h.before m.shown m.counts)
  leads =
      let at = address_of c.args.self.now.alu in
      let sees = seen c.args.lane.now.registers.slot (slice_index c.args.lane.now.registers.file) in
      ap (λ (i : Inst). decides i at sees) does

  -- the word has come into MEM
  comes : c.args.inst.now ≡ live code c.step.new.self.mem
  comes =
      does
      ∙ ap (live code)
      (sym (ap (λ (x : MachineState). x.mem) (c.in-Some.ensures.state c.args.board.now h.past h.before m.shown m.counts)))

  rest : counted ≡ record committed { counts = counted.counts; missed = counted.missed }
  rest = ap (λ q. joined (caught_up (c.args.left - c.count.result) q) c.commit-byte.new.lane) c.count.ensures.rest

pub returns-clause-next : goal.returns-clause-next
returns-clause-next g c = λ code m does h.
    goes_on g.C.FetchCache.holds code m (from g c code m does h) (moved g c code m does h) (committed g c code m does h) (counted g c code m does h)
    c.args.board.now c.commit-byte.new.board c.args.cache.now c.count.new.cache c.args.inst.now (d g c code m does h) c.count.result h
    does (leads g c code m does h)
    (λ past before shown counts. c.in-Some.ensures.state c.args.board.now past before shown counts)
    (λ past before shown counts. c.commit-byte.ensures.state code past before shown counts (comes g c code m does h))
    (c.count.ensures.cycles h.past h.held)
    c.commit-byte.ensures.input
    (λ k. after_turns (c.step.ensures.mark k - c.args.left) (c.step.ensures.counts k))
    c.step.ensures.missed
    (c.count.ensures.counts h.past h.held
    ∙ (λ k. turn_counts (resident h.past c.step.new.self.next.address)
    (after_turn c.step.new.self.missed (c.in-Some.ensures.cancels k) false (caught_up c.args.left c.step.new.self).counts)))
    (c.count.ensures.missed h.past h.held)
    (c.count.ensures.cache h.past h.held)
    (c.commit-byte.ensures.replaced
    ∙ ap (λ (i : Inst). reg (slice_index c.step.new.lane.registers.file) (dest i)) (comes g c code m does h))
    (rest g c code m does h)

pub returns-clause-console : goal.returns-clause-console
returns-clause-console g c = λ code m does h.
    let sent =
    sends g.C.FetchCache.holds code m (from g c code m does h) (moved g c code m does h) (committed g c code m does h) (counted g c code m does h)
    c.args.board.now c.commit-byte.new.board c.args.cache.now c.count.new.cache c.args.inst.now (d g c code m does h) c.count.result h
    does (leads g c code m does h)
    (λ past before shown counts. c.in-Some.ensures.state c.args.board.now past before shown counts)
    (λ past before shown counts. c.commit-byte.ensures.state code past before shown counts (comes g c code m does h))
    (c.count.ensures.cycles h.past h.held)
    c.commit-byte.result
    (λ past before shown counts. c.commit-byte.ensures.byte code past before shown counts (comes g c code m does h)) in
    c.in_ok-push_byte.ensures.ok ∙ ap (λ l. c.args.console.now.items ++ l) (sym sent)
