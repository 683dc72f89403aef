use Rattle.std.proofs.Common.{◌≡◌, ◌-◌, ◌∷◌, false, ◌++◌, sym, ap, ◌∙◌, subst}
use Rattle.std.specs.Prelude.{slice_index}
use Rattle.mx_isa.specs.declared.inst.Inst.{Inst}
use Rattle.mx_isa.specs.Words.{reg}
use Rattle.mx_isa.specs.Effect.{Decision, decides}
use Rattle.mx_isa.specs.Views.{dest}
use Rattle.mx_delay.specs.Delay.{Code}
use Rattle.mx_icache.specs.Residency.{resident}
use Rattle.mx_pcchain.specs.Fetch.{Fetch}
use Rattle.mx_turn.specs.Counted.{after_turn}
use Rattle.mx_turn.specs.Stages.{address_of, live}
use Rattle.mx_turn.specs.System.{seen}
use Rattle.mx_turn.specs.Cycle.{MachineState, decision}
use Rattle.mx_lane.specs.declared.lane.Lane.{Lane}
use Rattle.mx_lane.specs.Lanes.{lane_of, joined, caught_up, after_turns, turn_counts, InTurn}
use Rattle.mx_lane.proofs.Turning.{goes_on, sends}
use Rattle.mx_lane.proofs.queue.Queue.short_turn.Goals as goal
use Rattle.mx_lane.proofs.queue.Queue.short_turn.Goals.{After-count_short}
use Rattle.mx_lane.proofs.queue.Queue.short_turn.Given as given

module _ (g : given.Over) (c : After-count_short g) (code : Code) (m : MachineState) (does : c.args.inst.now ≡ live code c.args.self.now.alu)
    (h : InTurn g.C.FetchCache.holds code m (joined (caught_up c.args.left c.args.self.now) c.args.lane.now) c.args.board.now c.args.cache.now) where
  abbrev from : Lane
  from = joined (caught_up c.args.left c.args.self.now) c.args.lane.now

  abbrev moved : Lane
  moved = joined (caught_up c.args.left c.follow.new.self) c.args.lane.now

  abbrev committed : Lane
  committed = joined (caught_up c.args.left c.follow.new.self) c.commit-byte.new.lane

  abbrev counted : Lane
  counted = joined (caught_up (c.args.left - c.count_short.result) c.count_short.new.self) c.commit-byte.new.lane

  -- where the word in ALU leads
  abbrev d : Decision
  d = decides c.args.inst.now (address_of c.args.self.now.alu) (seen c.args.lane.now.registers.slot (slice_index c.args.lane.now.registers.file))

  leads : d ≡ decision code (lane_of from c.args.board.now h.past h.before m.shown m.counts)
  leads =
      let at = address_of c.args.self.now.alu in
      let sees = seen c.args.lane.now.registers.slot (slice_index c.args.lane.now.registers.file) in
      ap (λ (i : Inst). decides i at sees) does

  -- the word has come into MEM
  comes : c.args.inst.now ≡ live code c.follow.new.self.mem
  comes =
      does
      ∙ ap (live code)
      (sym (ap (λ (x : MachineState). x.mem) (c.in-Some.ensures.state c.args.board.now h.past h.before m.shown m.counts)))

  rest : counted ≡ record committed { counts = counted.counts; missed = counted.missed }
  rest = ap (λ q. joined (caught_up (c.args.left - c.count_short.result) q) c.commit-byte.new.lane) c.count_short.ensures.rest

pub returns-clause-next : goal.returns-clause-next
returns-clause-next g c = λ code m does h.
    goes_on g.C.FetchCache.holds code m (from g c code m does h) (moved g c code m does h) (committed g c code m does h) (counted g c code m does h)
    c.args.board.now c.commit-byte.new.board c.args.cache.now c.args.cache.now c.args.inst.now (d g c code m does h) c.count_short.result h
    does (leads g c code m does h)
    (λ past before shown counts. c.in-Some.ensures.state c.args.board.now past before shown counts)
    (λ past before shown counts. c.commit-byte.ensures.state code past before shown counts (comes g c code m does h))
    (c.count_short.ensures.cycles h.past h.held)
    c.commit-byte.ensures.input
    (λ k. after_turns (c.follow.ensures.mark k - c.args.left) (c.follow.ensures.counts k))
    c.follow.ensures.missed
    (c.count_short.ensures.counts h.past h.held
    ∙ (λ k. turn_counts (resident h.past c.follow.new.self.next.address)
    (after_turn c.follow.new.self.missed (c.in-Some.ensures.cancels k) false (caught_up c.args.left c.follow.new.self).counts)))
    (c.count_short.ensures.missed h.past h.held)
    (c.count_short.ensures.cache h.past h.held)
    (c.commit-byte.ensures.replaced
    ∙ ap (λ (i : Inst). reg (slice_index c.args.lane.now.registers.file) (dest i)) (comes g c code m does h))
    (rest g c code m does h)

pub returns-clause-console : goal.returns-clause-console
returns-clause-console g c = λ code m does h.
    let sent =
    sends g.C.FetchCache.holds code m (from g c code m does h) (moved g c code m does h) (committed g c code m does h) (counted g c code m does h)
    c.args.board.now c.commit-byte.new.board c.args.cache.now c.args.cache.now c.args.inst.now (d g c code m does h) c.count_short.result h
    does (leads g c code m does h)
    (λ past before shown counts. c.in-Some.ensures.state c.args.board.now past before shown counts)
    (λ past before shown counts. c.commit-byte.ensures.state code past before shown counts (comes g c code m does h))
    (c.count_short.ensures.cycles h.past h.held)
    c.commit-byte.result
    (λ past before shown counts. c.commit-byte.ensures.byte code past before shown counts (comes g c code m does h)) in
    c.in_ok-push_byte.ensures.ok ∙ ap (λ l. c.args.console.now.items ++ l) (sym sent)

-- the window has the address that the stages move on to
pub count_short-requires-clause-resident : goal.count_short-requires-clause-resident
count_short-requires-clause-resident g c = λ past h.
    ap (resident past) (ap (λ (f : Fetch). f.address) c.in-Some.ensures.next) ∙ c.is_near.ensures.resident c.if-not-is_near.false past h

pub count_short-requires-clause-keeps : goal.count_short-requires-clause-keeps
count_short-requires-clause-keeps g c = λ past h.
    subst (λ a. g.C.FetchCache.holds c.args.cache.now (a ∷ past)) (sym (ap (λ (f : Fetch). f.address) c.in-Some.ensures.next))
    (c.is_near.ensures.keeps c.if-not-is_near.false past h)

pub count_short-requires-clause-missed : goal.count_short-requires-clause-missed
count_short-requires-clause-missed g c = c.follow.ensures.missed ∙ c.is_near.ensures.hit c.if-not-is_near.false
