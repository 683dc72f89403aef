-- What the line of a block's number proposes is what the file proposes for it.
use Rattle.std.proofs.Common.{◌≡◌, ℕ, List, map, subst}
use Rattle.mx_source.specs.SourceValue.{SourceValue}
use Rattle.mx_blocks.specs.declared.Block.{Block}
use Rattle.mx_blocks.specs.declared.Plan.{Plan}
use Rattle.mx_blocks.specs.Leaders.{AreBlocks}
use Rattle.mx_plans.specs.declared.mark.Mark.{Mark}
use Rattle.mx_plans.specs.Says.{Proposes, number_below, line_at, IsProposed}

pub proposed_by : (source : SourceValue) (lines : List (List Mark)) (blocks : List Block) (firsts : List ℕ)
    → AreBlocks source blocks → firsts ≡ map (λ (b : Block). b.first) blocks
    → (block : Block) (plan : Plan) → Proposes (line_at lines (number_below firsts block.first)) block plan → IsProposed source lines block plan
proposed_by source lines blocks firsts are e block plan h = record {
  blocks = blocks;
  are = are;
  proposes = subst (λ (l : List ℕ). Proposes (line_at lines (number_below l block.first)) block plan) e h;
}
