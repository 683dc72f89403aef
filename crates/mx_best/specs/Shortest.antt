-- Shortest plans.
use Rattle.std.specs.Prelude.{ℕ, ◌≤◌, ◌<◌, length}
use Rattle.mx_blocks.specs.declared.block.Block.{Block}
use Rattle.mx_blocks.specs.declared.block.Plan.{Plan}
use Rattle.mx_blocks.specs.Leaders.{size}
use Rattle.mx_validate.specs.Padded.{items_of}
use Rattle.mx_validate.specs.Validity.{Valid}
use Rattle.mx_reorg.specs.Greedy.{IsGreedy}

-- a valid plan, and no valid plan of the block has fewer items
pub record IsShortest (block : Block) (plan : Plan) : Type 0 where
  pub valid : Valid block plan
  pub fewest : (other : Plan) → Valid block other → length (items_of plan) ≤ length (items_of other)

-- the greatest number of instructions of a block whose shortest plan is looked for
abbrev pub most_searched : ℕ
most_searched = 8

-- a shortest plan of a small block, the greedy plan of any other
pub record IsProposed (block : Block) (plan : Plan) : Type 0 where
  pub small : size block ≤ most_searched → IsShortest block plan
  pub large : most_searched < size block → IsGreedy block plan

abbrev pub ShortestExists : Type 0
ShortestExists = (block : Block) → (plan : Plan) × IsShortest block plan
