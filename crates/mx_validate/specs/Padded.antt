-- The plan that is lawful for every block: source order, with no-ops behind loads and transfers.
use Rattle.std.specs.Prelude.{◌≡◌, ℕ, ◌-◌, suc, Bool, true, false, cond, List, [], ◌∷◌, ◌++◌, length, take}
use Rattle.mx_isa.specs.declared.inst.Inst.{Inst}
use Rattle.mx_isa.specs.Views.{is_load, is_transfer}
use Rattle.mx_blocks.specs.declared.block.Block.{Block}
use Rattle.mx_blocks.specs.declared.block.Plan.{Plan}
use Rattle.mx_blocks.specs.declared.block.Item.{Item}
use Rattle.mx_blocks.specs.declared.block.Item.TheVariants.{Op, Nop}
use Rattle.mx_blocks.specs.declared.block.End.{End}
use Rattle.mx_blocks.specs.declared.block.End.TheVariants.{Falls}

abbrev pub insts_of : Block → List Inst
insts_of block = block.insts.items

abbrev pub items_of : Plan → List Item
items_of plan = plan.items.items

abbrev pub falls : End → Bool
falls Falls = true
falls _ = false

-- the number of instructions before the terminator
abbrev pub body_count : Block → ℕ
body_count block = cond (falls block.end) (length (insts_of block)) (length (insts_of block) - 1)

-- one no-op after a load, two after a transfer
abbrev pub no_ops_after : Inst → List Item
no_ops_after i = cond (is_load i) (Nop ∷ []) (cond (is_transfer i) (Nop ∷ Nop ∷ []) [])

-- the instructions from number k on, in source order
abbrev pub padded_from : ℕ → List Inst → List Item
padded_from k [] = []
padded_from k (i ∷ insts) = Op k ∷ (no_ops_after i ++ padded_from (suc k) insts)

-- the number of items before the terminator's place
abbrev pub padded_place : Block → ℕ
padded_place block = length (padded_from 0 (take (body_count block) (insts_of block)))

pub record IsPadded (block : Block) (plan : Plan) : Type 0 where
  pub items : items_of plan ≡ padded_from 0 (insts_of block)
  pub place : plan.place ≡ padded_place block
