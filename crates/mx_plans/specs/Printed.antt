-- The plan file of the list scheduler.
use Rattle.std.specs.Prelude.{◌≡◌, ℕ, suc, Bool, true, false, not, ◌==◌, ◌&&◌, List, [], ◌∷◌, ◌++◌}
use Rattle.std.specs.List.{flat_map}
use Rattle.std.specs.Fmt.{decimal}
use Rattle.mx_blocks.specs.declared.Block.{Block}
use Rattle.mx_blocks.specs.declared.Plan.{Plan}
use Rattle.mx_blocks.specs.declared.Item.{Item}
use Rattle.mx_blocks.specs.declared.Item.TheVariants.{Op, Nop}
use Rattle.mx_validate.specs.Padded.{items_of, falls}
use Rattle.mx_reorg.specs.Greedy.{IsGreedy}
use Rattle.mx_reorg.proofs.ExistsPlans.{greedy_exists}
use Rattle.mx_plans.specs.declared.mark.Mark.{Mark}
use Rattle.mx_plans.specs.declared.mark.Mark.TheVariants.{Number, NoOp, Terminator}

-- what an item says, at the terminator's place or not
abbrev pub mark_at : Bool → Item → Mark
mark_at true item = Terminator
mark_at false (Op k) = Number k
mark_at false Nop = NoOp

-- what the items from place p on say, where the terminator, if there is one, stands at a place
abbrev pub marks_from : Bool → ℕ → ℕ → List Item → List Mark
marks_from ends place p [] = []
marks_from ends place p (item ∷ items) = mark_at (ends && p == place) item ∷ marks_from ends place (suc p) items

-- the words that say a plan of a block
abbrev pub marks_of_plan : Block → Plan → List Mark
marks_of_plan block plan = marks_from (not (falls block.end)) plan.place 0 (items_of plan)

abbrev pub mark_word : Mark → List ℕ
mark_word (Number k) = decimal k
mark_word NoOp = 45 ∷ []
mark_word Terminator = 47 ∷ []

-- the words from the first on, each but that with a space before it
abbrev pub word_of_line : Bool → Mark → List ℕ
word_of_line true mark = mark_word mark
word_of_line false mark = 32 ∷ mark_word mark

abbrev pub words_from : Bool → List Mark → List ℕ
words_from first [] = []
words_from first (mark ∷ marks) = word_of_line first mark ++ words_from false marks

-- the greedy plan of a block
unfoldable pub greedy_plan : Block → Plan
greedy_plan block = (greedy_exists block).0

abbrev pub GreedyPlanIs : Type 0
GreedyPlanIs = (block : Block) (plan : Plan) → IsGreedy block plan → greedy_plan block ≡ plan

-- the line of a block
unfoldable pub plan_line : Block → List ℕ
plan_line block = words_from true (marks_of_plan block (greedy_plan block)) ++ 10 ∷ []

-- the file of the blocks of a source
abbrev pub plans_text : List Block → List ℕ
plans_text blocks = flat_map plan_line blocks
