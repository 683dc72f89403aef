-- Greedy plans as laws: each block has one, no other, and it is valid; so has each source for its blocks.
use Rattle.std.specs.Prelude.{◌≡◌, List, [], ◌∷◌}
use Rattle.mx_source.specs.SourceValue.{SourceValue, IsSource}
use Rattle.mx_blocks.specs.declared.block.Block.{Block}
use Rattle.mx_blocks.specs.declared.block.Plan.{Plan}
use Rattle.mx_blocks.specs.Leaders.{AreBlocks}
use Rattle.mx_validate.specs.Validity.{Valid}
use Rattle.mx_reorg.specs.Greedy.{IsGreedy}

-- a greedy plan of each block
abbrev pub GreedyExists : Type 0
GreedyExists = (block : Block) → (plan : Plan) × IsGreedy block plan

-- no other plan of it is greedy
abbrev pub GreedyUnique : Type 0
GreedyUnique = (block : Block) (plan other : Plan) → IsGreedy block plan → IsGreedy block other → plan ≡ other

abbrev pub GreedyValid : Type 0
GreedyValid = (block : Block) (plan : Plan) → IsGreedy block plan → Valid block plan

-- a greedy plan for each block, in order
abbrev pub AreGreedy : List Block → List Plan → Type 0
AreGreedy [] [] = Unit {0}
AreGreedy (block ∷ blocks) (plan ∷ plans) = IsGreedy block plan × AreGreedy blocks plans
AreGreedy _ _ = ⊥

-- the blocks of a source, with a greedy plan for each
pub record HasPlans (source : SourceValue) (blocks : List Block) (plans : List Plan) : Type 0 where
  pub blocks_are : AreBlocks source blocks
  pub greedy : AreGreedy blocks plans

-- blocks and plans of each source
abbrev pub PlansExist : Type 0
PlansExist = (source : SourceValue) → IsSource source → (blocks : List Block) × ((plans : List Plan) × HasPlans source blocks plans)

-- no others are
abbrev pub PlansUnique : Type 0
PlansUnique =
    (source : SourceValue) (blocks others : List Block) (plans rest : List Plan)
    → HasPlans source blocks plans → HasPlans source others rest → (blocks ≡ others) × (plans ≡ rest)
