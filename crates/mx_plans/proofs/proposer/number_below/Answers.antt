use Rattle.std.proofs.Common.{ℕ, ◌≤◌, Bool, ltb, rules, of_calls, arith}
use Rattle.std.proofs.lemmas.Fn.{always_returns_same}
use Rattle.std.proofs.lemmas.List.Sorted.{IsPartitionedBy-ltb}
use Rattle.mx_plans.proofs.Rising.{count_before}
use Rattle.mx_plans.proofs.proposer.number_below.Goals as goal

pub returns : goal.returns
returns c =
    let firsts = c.args.firsts.now in
    let p : ℕ → Bool = λ f. ltb f c.args.first in
    let key = always_returns_same _ _ _ (λ a r f k. search (rules, of_calls)) in
    let split = c.partition_point.ensures.partitioned p key (IsPartitionedBy-ltb (λ x. x) firsts c.args.first c.requires) in
    count_before p firsts c.partition_point.result c.partition_point.ensures.bound (λ k d l. split.0 k d (omega arith) l) split.1
