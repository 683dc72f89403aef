-- When a plan of a block is valid, as properties of places and pairs of places in the finished list.
use Rattle.std.specs.Prelude.{◌≡◌, ℕ, ◌+◌, ◌-◌, ◌<◌, ◌≤◌, suc, Bool, false, cond, ltb, List, length}
use Rattle.mx_isa.specs.declared.inst.Inst.{Inst}
use Rattle.mx_isa.specs.Views.{is_load}
use Rattle.mx_depend.specs.Independence.{Independent, feeds}
use Rattle.mx_depend.specs.Graphs.{inst_at}
use Rattle.mx_blocks.specs.declared.block.Block.{Block}
use Rattle.mx_blocks.specs.declared.block.Plan.{Plan}
use Rattle.mx_blocks.specs.declared.block.Item.{Item}
use Rattle.mx_blocks.specs.declared.block.End.{End}
use Rattle.mx_blocks.specs.declared.block.End.TheVariants.{Falls, Halts, Branches, Calls, Jumps}
use Rattle.mx_blocks.specs.Items.{StandsAt, ops, times}
use Rattle.mx_validate.specs.Padded.{insts_of, items_of, falls, padded_place}

-- each number below n stands once, and no other number stands
abbrev pub EachOnce : ℕ → List Item → Type 0
EachOnce n items = (k : ℕ) → times k (ops items) ≡ cond (ltb k n) 1 0

-- the number of items from the terminator on: nothing follows a halt, and two items follow a transfer
abbrev pub end_count : End → ℕ
end_count Falls = 0
end_count Halts = 1
end_count (Branches target) = 3
end_count (Calls target) = 3
end_count Jumps = 3

-- two instructions that stand in the opposite order of the source are independent
abbrev pub KeepsOrder : List Inst → Bool → List Item → Type 0
KeepsOrder insts input items =
    (p q k j : ℕ) → StandsAt items p k → StandsAt items q j → p < q → j < k → Independent (inst_at insts j) (inst_at insts k) input

-- no load is directly followed by a reader of its register
abbrev pub KeepsApart : List Inst → List Item → Type 0
KeepsApart insts items =
    (p k j : ℕ) → StandsAt items p k → StandsAt items (suc p) j → feeds (inst_at insts k) (inst_at insts j) ≡ false

-- the last item is not a load
abbrev pub EndsWithoutLoad : List Inst → List Item → Type 0
EndsWithoutLoad insts items =
    (p k : ℕ) → StandsAt items p k → suc p ≡ length items → is_load (inst_at insts k) ≡ false

pub record Valid (block : Block) (plan : Plan) : Type 0 where
  pub once : EachOnce (length (insts_of block)) (items_of plan)
  -- the terminator, if there is one, stands at the place
  pub terminator : falls block.end ≡ false → StandsAt (items_of plan) plan.place (length (insts_of block) - 1)
  -- where a block falls through the place is the length
  pub tail : length (items_of plan) ≡ plan.place + end_count block.end
  pub order : KeepsOrder (insts_of block) block.input (items_of plan)
  pub apart : KeepsApart (insts_of block) (items_of plan)
  pub last : EndsWithoutLoad (insts_of block) (items_of plan)
  -- no more items stand before the terminator's place than in the padded plan
  pub room : plan.place ≤ padded_place block
