use Rattle.std.proofs.Common.{◌≡◌, ◌&&◌, not, true, sym, ap, ◌∙◌}
use Rattle.std.specs.Prelude.{slice_index}
use Rattle.mx_isa.specs.declared.inst.Inst.{Inst}
use Rattle.mx_isa.specs.Effect.{decides}
use Rattle.mx_turn.specs.System.{pops, restores, seen}
use Rattle.mx_turn.specs.Cycle.{shifted}
use Rattle.mx_lane.specs.Lanes.{lane_of, joined, lead_of, back}
use Rattle.mx_lane.proofs.Turning.{decided_back}
use Rattle.mx_lane.proofs.queue.Queue.come_back.Goals as goal

pub returns-clause-state : goal.returns-clause-state
returns-clause-state c = λ b past before shown counts.
    let user = c.args.lane.now.psw.current.user in
    let goes : (pops c.args.inst && not user) ≡ true =
    ap (λ p. p && not user) (sym c.decide-decided.ensures.pops) ∙ sym c.goes_back.ensures ∙ c.if-not-goes_back.false in
    let i : Inst = c.args.inst in
    let sees = seen c.args.lane.now.registers.slot (slice_index c.args.lane.now.registers.file) in
    let from = lane_of (joined c.args.self.now c.args.lane.now) b past before shown counts in
    c.go_back.ensures.state b past before shown counts
    ∙ (λ k. shifted (back (c.decide-decided.ensures.restores k)
    (record { target = c.decide-decided.ensures.target k; cancels = c.decide-decided.ensures.cancels k }) from))
    ∙ (λ k. shifted (back (restores i) (decides i (c.address.ensures.value k) sees) from))
    ∙ sym (ap shifted (decided_back i (lead_of i c.args.self.now c.args.lane.now) from goes))
