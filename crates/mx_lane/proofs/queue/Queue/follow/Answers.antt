use Rattle.std.proofs.Common.{sym, ap, ◌∙◌}
use Rattle.mx_turn.specs.Cycle.{shifted}
use Rattle.mx_lane.specs.Lanes.{lane_of, joined, lead_of, plain}
use Rattle.mx_lane.proofs.Turning.{decided_plain}
use Rattle.mx_lane.proofs.queue.Queue.follow.Goals as goal

pub returns-clause-state : goal.returns-clause-state
returns-clause-state c = λ b past before shown counts.
    let from = lane_of (joined c.args.self.now c.args.lane.now) b past before shown counts in
    c.move_on.ensures.state c.args.lane.now b past before shown counts
    ∙ (λ k. shifted (plain (record { target = c.in-Some.ensures.target k; cancels = c.in-Some.ensures.cancels k }) from))
    ∙ sym (ap shifted (decided_plain c.args.inst.now (lead_of c.args.inst.now c.args.self.now c.args.lane.now) from c.in-Some.ensures.stays))
