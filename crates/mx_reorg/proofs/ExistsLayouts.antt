-- Each source has greedy plans, and has them in one way.
use Rattle.std.proofs.Common.{◌≡◌, List, [], ◌∷◌, refl, subst}
use Rattle.mx_blocks.specs.declared.block.Block.{Block}
use Rattle.mx_blocks.specs.declared.block.Plan.{Plan}
use Rattle.mx_blocks.proofs.ExistsBlocks.{blocks_exist}
use Rattle.mx_blocks.proofs.UniqueBlocks.{blocks_unique}
use Rattle.mx_reorg.specs.GreedyPlans.{AreGreedy, PlansExist, PlansUnique}
use Rattle.mx_reorg.proofs.Unique.{greedy_unique}
use Rattle.mx_reorg.proofs.ExistsItems.{height_of}
use Rattle.mx_reorg.proofs.ExistsPlans.{greedy_exists}

pub plans_of : (blocks : List Block) → (plans : List Plan) × AreGreedy blocks plans
plans_of [] = ([], tt)
plans_of (block ∷ blocks) =
    let one = greedy_exists block in
    let rest = plans_of blocks in
    (one.0 ∷ rest.0, (one.1, rest.1))

pub plans_same : (blocks : List Block) (plans others : List Plan) → AreGreedy blocks plans → AreGreedy blocks others → plans ≡ others
plans_same [] [] [] g h = refl
plans_same [] [] (q ∷ others) g h = absurd h
plans_same [] (p ∷ plans) others g h = absurd g
plans_same (block ∷ blocks) [] others g h = absurd g
plans_same (block ∷ blocks) (p ∷ plans) [] g h = absurd h
plans_same (block ∷ blocks) (p ∷ plans) (q ∷ others) g h =
    let one = greedy_unique block (λ x l. height_of block x) p q g.0 h.0 in
    let rest = plans_same blocks plans others g.1 h.1 in
    λ i. one i ∷ rest i

pub plans_exist : PlansExist
plans_exist source kept =
    let blocks = blocks_exist source kept in
    let plans = plans_of blocks.0 in
    (blocks.0, (plans.0, record { blocks_are = blocks.1; greedy = plans.1 }))

pub plans_unique : PlansUnique
plans_unique source blocks others plans rest g h =
    let same = blocks_unique source blocks others g.blocks_are h.blocks_are in
    (same, plans_same others plans rest (subst (λ (bs : List Block). AreGreedy bs plans) same g.greedy) h.greedy)
