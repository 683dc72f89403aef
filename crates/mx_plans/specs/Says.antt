-- What a plan file proposes for the blocks of a source.
use Rattle.std.specs.Prelude.{ℕ, ltb, List, [], ◌∷◌, map, count_by, slice_index_or}
use Rattle.mx_source.specs.SourceValue.{SourceValue}
use Rattle.mx_blocks.specs.declared.Block.{Block}
use Rattle.mx_blocks.specs.declared.Plan.{Plan}
use Rattle.mx_blocks.specs.Leaders.{AreBlocks}
use Rattle.mx_reorg.specs.Greedy.{IsGreedy}
use Rattle.mx_plans.specs.declared.mark.Mark.{Mark}
use Rattle.mx_plans.specs.Marks.{IsSaid}

-- what a line proposes for its block; without words it leaves the block to the list scheduler
abbrev pub Proposes : List Mark → Block → Plan → Type 0
Proposes [] block plan = IsGreedy block plan
Proposes (mark ∷ marks) block plan = IsSaid block (mark ∷ marks) plan

-- how many of these numbers are less
abbrev pub number_below : List ℕ → ℕ → ℕ
number_below firsts first = count_by (λ f. ltb f first) firsts

-- the number of a block among the blocks of its source, from 0: how many begin before it
abbrev pub number_of_block : List Block → Block → ℕ
number_of_block blocks block = number_below (map (λ (b : Block). b.first) blocks) block.first

-- the line of that number; there are no words in one behind the last
abbrev pub line_at : List (List Mark) → ℕ → List Mark
line_at lines n = slice_index_or lines n []

-- what a file of these lines proposes for a block of the source
pub record IsProposed (source : SourceValue) (lines : List (List Mark)) (block : Block) (plan : Plan) : Type 0 where
  pub blocks : List Block
  pub are : AreBlocks source blocks
  pub proposes : Proposes (line_at lines (number_of_block blocks block)) block plan
