-- The greedy plan of a block, as conditions on the finished list.
use Rattle.std.specs.Prelude.{◌≡◌, ◌≢◌, ℕ, ◌+◌, ◌-◌, ◌<◌, ◌≤◌, suc, Bool, false, ◌⊎◌, List, [], ◌∷◌, ◌++◌, length, take, slice_index_or}
use Rattle.mx_isa.specs.Views.{is_load}
use Rattle.mx_depend.specs.Independence.{feeds}
use Rattle.mx_depend.specs.Graphs.{inst_at, IsEdge, IsHeight}
use Rattle.mx_blocks.specs.declared.block.Block.{Block}
use Rattle.mx_blocks.specs.declared.block.Plan.{Plan}
use Rattle.mx_blocks.specs.declared.block.Item.{Item}
use Rattle.mx_blocks.specs.declared.block.Item.TheVariants.{Op, Nop}
use Rattle.mx_blocks.specs.declared.block.End.{End}
use Rattle.mx_blocks.specs.declared.block.End.TheVariants.{Falls, Halts}
use Rattle.mx_blocks.specs.Items.{StandsAt}
use Rattle.mx_validate.specs.Padded.{insts_of, items_of, falls, body_count}
use Rattle.mx_validate.specs.Validity.{EndsWithoutLoad, end_count}

-- instruction k stands in the list
pub record Stands (items : List Item) (k : ℕ) : Type 0 where
  pub at : ℕ
  pub stands : StandsAt items at k

-- the last item is not a load of a register that x reads
abbrev pub LeavesApart : Block → List Item → ℕ → Type 0
LeavesApart block before x =
    (p k : ℕ) → StandsAt before p k → suc p ≡ length before → feeds (inst_at (insts_of block) k) (inst_at (insts_of block) x) ≡ false

-- behind these items x may stand: all from which an edge goes to x do, and the item just before is not a load of a register that x reads
pub record IsReady (block : Block) (before : List Item) (x : ℕ) : Type 0 where
  pub follows : (y : ℕ) → IsEdge (insts_of block) block.input y x → Stands before y
  pub apart : LeavesApart block before x

-- a body instruction that does not stand yet and is ready
pub record IsCandidate (block : Block) (before : List Item) (x : ℕ) : Type 0 where
  pub body : x < body_count block
  pub fresh : ¬ Stands before x
  pub ready : IsReady block before x

-- x has the greater height, or the same height and no greater number
abbrev pub Precedes : Block → ℕ → ℕ → Type 0
Precedes block x y =
    (h g : ℕ) → IsHeight (insts_of block) block.input x h → IsHeight (insts_of block) block.input y g → (g < h) ⊎ ((g ≡ h) × (x ≤ y))

-- the candidate of greatest height, then least number
pub record IsBest (block : Block) (before : List Item) (x : ℕ) : Type 0 where
  pub candidate : IsCandidate block before x
  pub greatest : (y : ℕ) → IsCandidate block before y → Precedes block x y

-- what stands behind these items, other than the terminator: the best candidate, and a no-op exactly where there is no candidate
abbrev pub Fills : Block → List Item → Item → Type 0
Fills block before (Op k) = IsBest block before k
Fills block before Nop = (k : ℕ) → ¬ IsCandidate block before k

-- all body instructions stand in the list
abbrev pub AllStand : Block → List Item → Type 0
AllStand block items = (k : ℕ) → k < body_count block → Stands items k

-- the number of the terminator
abbrev pub terminator : Block → ℕ
terminator block = length (insts_of block) - 1

abbrev pub loads : Block → Item → Bool
loads block (Op k) = is_load (inst_at (insts_of block) k)
loads block Nop = false

-- behind the terminator the two slots take all that is left, and no load stands in the second
pub record RestFits (block : Block) (before : List Item) : Type 0 where
  pub first : Item
  pub second : Item
  pub first_fills : Fills block (before ++ Op (terminator block) ∷ []) first
  pub second_fills : Fills block (before ++ Op (terminator block) ∷ [] ++ first ∷ []) second
  pub all : AllStand block (before ++ Op (terminator block) ∷ [] ++ first ∷ [] ++ second ∷ [])
  pub no_load : loads block second ≡ false

-- where the terminator may stand: a halt behind all body instructions, a transfer where it is ready and the rest fits;
-- a block that falls through may end behind all its instructions where the last item is not a load
abbrev pub MayEnd : End → Block → List Item → Type 0
MayEnd Falls block before = AllStand block before × EndsWithoutLoad (insts_of block) before
MayEnd Halts block before = AllStand block before
MayEnd _ block before = IsReady block before (terminator block) × RestFits block before

pub record IsGreedy (block : Block) (plan : Plan) : Type 0 where
  -- the terminator stands at the first place where it may, and the plan of a block that falls through ends there
  pub ends : MayEnd block.end block (take plan.place (items_of plan))
  pub least : (p : ℕ) → p < plan.place → ¬ MayEnd block.end block (take p (items_of plan))
  -- each other place has the best candidate of that place, if there is one
  pub filled : (p : ℕ) → p < length (items_of plan) → p ≢ plan.place → Fills block (take p (items_of plan)) (slice_index_or (items_of plan) p Nop)
  pub terminator : falls block.end ≡ false → StandsAt (items_of plan) plan.place (terminator block)
  -- nothing follows a halt, and two items follow a transfer
  pub tail : length (items_of plan) ≡ plan.place + end_count block.end
