-- The greedy plan of a block.
use Rattle.std.proofs.Common.{◌≡◌, ◌++◌, ◌∷◌, [], true, sym, ap}
use Rattle.mx_blocks.specs.declared.Block.{Block}
use Rattle.mx_blocks.specs.declared.Plan.{Plan}
use Rattle.mx_reorg.specs.Greedy.{IsGreedy}
use Rattle.mx_reorg.proofs.ExistsItems.{height_of}
use Rattle.mx_reorg.proofs.ExistsPlans.{greedy_exists}
use Rattle.mx_reorg.proofs.Unique.{greedy_unique}
use Rattle.mx_plans.specs.Printed.{greedy_plan, GreedyPlanIs, marks_of_plan, words_from, plan_line}

pub greedy_plan_is : GreedyPlanIs
unfolding greedy_plan
greedy_plan_is block plan g =
    let found = greedy_exists block in
    greedy_unique block (λ x l. height_of block x) found.0 plan found.1 g

pub line_is : (block : Block) (plan : Plan) → IsGreedy block plan → words_from true (marks_of_plan block plan) ++ 10 ∷ [] ≡ plan_line block
unfolding plan_line
line_is block plan g = ap (λ (p : Plan). words_from true (marks_of_plan block p) ++ 10 ∷ []) (sym (greedy_plan_is block plan g))
