-- What a search from the last place of a plan to the first may put at each place. Every valid plan is one that it visits.
use Rattle.std.specs.Prelude.{◌≡◌, ℕ, ◌+◌, ◌-◌, ◌<◌, ◌≤◌, suc, Bool, false, not, ◌&&◌, eqb, List, [], ◌∷◌, length, drop, slice_index_or}
use Rattle.mx_isa.specs.Views.{is_load}
use Rattle.mx_depend.specs.Independence.{feeds}
use Rattle.mx_depend.specs.Graphs.{inst_at, IsEdge}
use Rattle.mx_blocks.specs.declared.block.Block.{Block}
use Rattle.mx_blocks.specs.declared.block.Plan.{Plan}
use Rattle.mx_blocks.specs.declared.block.Item.{Item}
use Rattle.mx_blocks.specs.declared.block.Item.TheVariants.{Op, Nop}
use Rattle.mx_blocks.specs.Items.{StandsAt}
use Rattle.mx_validate.specs.Padded.{insts_of, items_of, falls}
use Rattle.mx_validate.specs.Validity.{Valid}
use Rattle.mx_reorg.specs.Greedy.{Stands}

-- no load stands last, and none directly before a reader of its register
pub record KeepsDelay (block : Block) (behind : List Item) (k : ℕ) : Type 0 where
  pub apart : (j : ℕ) → StandsAt behind 0 j → feeds (inst_at (insts_of block) k) (inst_at (insts_of block) j) ≡ false
  pub last : behind ≡ [] → is_load (inst_at (insts_of block) k) ≡ false

-- all to which an edge goes from k stand in the list
abbrev pub IsFollowed : Block → List Item → ℕ → Type 0
IsFollowed block behind k = (y : ℕ) → IsEdge (insts_of block) block.input k y → Stands behind y

-- instruction k may stand directly before these items, which end a list
pub record MayPrecede (block : Block) (behind : List Item) (k : ℕ) : Type 0 where
  pub fresh : ¬ Stands behind k
  pub followed : IsFollowed block behind k
  pub delay : KeepsDelay block behind k

-- a no-op may stand anywhere
abbrev pub Precedes : Block → List Item → Item → Type 0
Precedes block behind (Op k) = MayPrecede block behind k
Precedes block behind Nop = Unit {0}

abbrev pub is_terminator : Block → Item → Bool
is_terminator block (Op k) = not (falls block.end) && eqb k (length (insts_of block) - 1)
is_terminator block Nop = false

-- the item may stand at a place of a plan, before what stands behind it: the terminator at its own place, and no other item there
pub record MayStand (block : Block) (plan : Plan) (at : ℕ) (item : Item) : Type 0 where
  pub place : eqb at plan.place ≡ is_terminator block item
  pub precedes : Precedes block (drop (suc at) (items_of plan)) item

abbrev pub no_ops : List Item → ℕ
no_ops [] = 0
no_ops (Op k ∷ items) = no_ops items
no_ops (Nop ∷ items) = suc (no_ops items)

-- each item of the plan may stand before those behind it, and what is no instruction is a no-op
pub record IsVisited (block : Block) (plan : Plan) : Type 0 where
  pub may : (p : ℕ) → p < length (items_of plan) → MayStand block plan p (slice_index_or (items_of plan) p Nop)
  pub count : no_ops (items_of plan) + length (insts_of block) ≤ length (items_of plan)

abbrev pub ValidIsVisited : Type 0
ValidIsVisited = (block : Block) (plan : Plan) → Valid block plan → IsVisited block plan

-- from a place on the other plan is the same
pub record EndsAs (plan : Plan) (from : ℕ) (other : Plan) : Type 0 where
  pub place : other.place ≡ plan.place
  pub size : length (items_of other) ≡ length (items_of plan)
  pub behind : drop from (items_of other) ≡ drop from (items_of plan)
