-- The lengths of a block's plans.
use Rattle.std.specs.Prelude.{◌≡◌, ℕ, length}
use Rattle.mx_blocks.specs.declared.block.Block.{Block}
use Rattle.mx_blocks.specs.declared.block.Plan.{Plan}
use Rattle.mx_validate.specs.Padded.{items_of}

-- n is the length of a plan that a scheduler proposes for the block
pub record HasLength (proposes : Block → Plan → Type 0) (block : Block) (n : ℕ) : Type 0 where
  pub plan : Plan
  pub proposed : proposes block plan
  pub long : length (items_of plan) ≡ n
