use Rattle.std.proofs.Common.{rules, length, arith}
use Rattle.lab_costs.proofs.Numbers.{keys_more}
use Rattle.lab_costs.proofs.grouping.keys_by.Goals as goal

pub loop-line-preserved : goal.loop-line-preserved
loop-line-preserved c =
    let grows = c.loop-line.invariant.grows in
    let next = c.in_ok-key.ensures.grows in
    record {
      size = search rules;
      grows = omega (arith, grows, next);
      below = λ some.
          keys_more c.loop-line.keys.items c.push.new.self.items c.in_ok-key.key (length c.loop-line.groups.items) (length c.numbered.new.groups.items)
          c.in_ok-push.ensures.items (c.loop-line.invariant.below some) next
          (c.in_ok-key.ensures.below (omega (arith, some, grows)) c.loop-line.invariant.numbers);
      numbers = c.in_ok-key.ensures.numbers c.loop-line.invariant.numbers;
    }
