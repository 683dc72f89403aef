-- The lengths are those of the plans.
use Rattle.std.proofs.Common.{length, refl, ap, arith}
use Rattle.mx_blocks.specs.declared.block.Plan.{Plan}
use Rattle.mx_validate.specs.Padded.{items_of}
use Rattle.mx_reorg.proofs.ExistsItems.{height_of}
use Rattle.mx_reorg.proofs.ExistsPlans.{greedy_exists}
use Rattle.mx_reorg.proofs.Unique.{greedy_unique}
use Rattle.mx_best.proofs.Fewest.{shortest_of}
use Rattle.cmd_best.specs.Lengths.{greedy_length, shortest_length, GreedyLengthIs, ShortestLengthIs}

pub greedy_length_is : GreedyLengthIs
unfolding greedy_length
greedy_length_is block plan g =
    let found = greedy_exists block in
    ap (λ (p : Plan). length (items_of p)) (greedy_unique block (λ x l. height_of block x) found.0 plan found.1 g)

pub shortest_length_is : ShortestLengthIs
unfolding shortest_length
shortest_length_is block plan h =
    let s = shortest_of block in
    let l = s.least (length (items_of plan)) (record { plan = plan; valid = h.valid; size = refl }) in
    let g = h.fewest s.holds.plan s.holds.valid in
    let e = s.holds.size in
    omega arith
