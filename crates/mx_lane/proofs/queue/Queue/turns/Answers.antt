use Rattle.std.proofs.Common.{◌≡◌, ◌+◌, ◌-◌, ◌++◌, arith, append_assoc, sym, ap, ◌∙◌, subst}
use Rattle.mx_turn.specs.Decoded.{code_in}
use Rattle.mx_turn.specs.Cycle.{MachineState}
use Rattle.mx_lane.specs.Lanes.{joined, quietly, later_bytes, InTurn, caught_up}
use Rattle.mx_lane.proofs.Turning.{quietly_more, bytes_more}
use Rattle.mx_lane.proofs.queue.Queue.turns.Goals as goal

pub loop-left-preserved : goal.loop-left-preserved
loop-left-preserved g c = record {
  within =
      let few = c.in_ok-cycles.ensures.few in
      let before = c.loop-left.invariant.within in
      omega (arith, few, before);
  counted = c.in_ok-cycles.ensures.within;
  total = c.in_ok-cycles.ensures.total ∙ c.loop-left.invariant.total;
  input = c.in_ok-cycles.ensures.input ∙ c.loop-left.invariant.input;
  known = c.in_ok-cycles.ensures.known;
  turns = λ m h.
      let code = code_in c.args.code.now in
      let input = c.args.board.now.input in
      let most = c.args.most in
      let left = c.loop-left.left in
      let n = c.in_ok-cycles.cycles in
      let before = c.loop-left.invariant.turns m h in
      let x : MachineState = quietly code input (most - left) m in
      let same = c.loop-left.invariant.input in
      let few = c.in_ok-cycles.ensures.few in
      let within = c.loop-left.invariant.within in
      let more : (most - left) + n ≡ most - (left - n) = omega (arith, few, within) in (
        subst (λ (y : MachineState). InTurn g.C.FetchCache.holds code y
            (joined (caught_up (left - n) c.turn_within.new.self) c.turn_within.new.lane) c.turn_within.new.board c.turn_within.new.cache)
            ((λ k. quietly code (same k) n x) ∙ sym (quietly_more code input (most - left) n m) ∙ ap (λ k. quietly code input k m) more)
            (c.in_ok-cycles.ensures.next x before.0),
        c.in_ok-cycles.ensures.console x before.0
            ∙ (λ k. before.1 k ++ later_bytes code (same k) n x)
            ∙ append_assoc c.args.console.now.items (later_bytes code input (most - left) m) (later_bytes code input n x)
            ∙ ap (λ l. c.args.console.now.items ++ l) (sym (bytes_more code input (most - left) n m) ∙ ap (λ k. later_bytes code input k m) more),
      );
}
