-- How a greedy plan is made: what only private functions cite.
use Rattle.std.specs.Prelude.{◌≡◌, ℕ, ◌+◌, ◌<◌, ◌≤◌, ◌⊎◌, List, [], ◌∷◌, ◌++◌, length, take, slice_index_or}
use Rattle.mx_blocks.specs.declared.block.Block.{Block}
use Rattle.mx_blocks.specs.declared.block.Item.{Item}
use Rattle.mx_blocks.specs.declared.block.Item.TheVariants.{Op, Nop}
use Rattle.mx_reorg.specs.Greedy.{Precedes, Fills, MayEnd, terminator}

-- of two candidates, b below x, the one that precedes the other
pub record IsBetter (block : Block) (b x : ℕ) (item : Item) : Type 0 where
  pub is : (item ≡ Op b) ⊎ (item ≡ Op x)
  pub precedes : (k : ℕ) → item ≡ Op k → Precedes block k b × Precedes block k x

-- each item fills its place, and the terminator could not stand at any of these
pub record Grows (block : Block) (items : List Item) : Type 0 where
  pub filled : (p : ℕ) → p < length items → Fills block (take p items) (slice_index_or items p Nop)
  pub going : (p : ℕ) → p < length items → ¬ MayEnd block.end block (take p items)

-- all that stands before the terminator's place
pub record IsFront (block : Block) (items : List Item) : Type 0 where
  pub grows : Grows block items
  pub ends : MayEnd block.end block items
  pub short : length items ≤ 128

-- a front, followed by the terminator and what fills its two slots
pub record HasSlots (block : Block) (before items : List Item) (second : Item) : Type 0 where
  pub first : Item
  pub is : items ≡ before ++ Op (terminator block) ∷ [] ++ first ∷ [] ++ second ∷ []
  pub first_fills : Fills block (before ++ Op (terminator block) ∷ []) first
  pub second_fills : Fills block (before ++ Op (terminator block) ∷ [] ++ first ∷ []) second
