-- The rules of validity that speak of the list alone.
use Rattle.std.proofs.Common.{◌≡◌, ◌+◌, ◌-◌, ◌≤◌, Bool, false, List, length, sym, subst}
use Rattle.mx_isa.specs.declared.inst.Inst.{Inst}
use Rattle.mx_blocks.specs.declared.block.Block.{Block}
use Rattle.mx_blocks.specs.declared.block.Plan.{Plan}
use Rattle.mx_blocks.specs.declared.block.Item.{Item}
use Rattle.mx_blocks.specs.Items.{StandsAt}
use Rattle.mx_validate.specs.Padded.{insts_of, items_of, falls, padded_place}
use Rattle.mx_validate.specs.Validity.{EachOnce, KeepsOrder, KeepsApart, EndsWithoutLoad, end_count, Valid}

pub record Lawful (insts : List Inst) (input : Bool) (items : List Item) : Type 0 where
  pub once : EachOnce (length insts) items
  pub order : KeepsOrder insts input items
  pub apart : KeepsApart insts items
  pub last : EndsWithoutLoad insts items

moved : (insts insts' : List Inst) (input : Bool) (items items' : List Item) → insts ≡ insts' → items ≡ items' → Lawful insts input items
    → Lawful insts' input items'
moved insts insts' input items items' e f h = subst (λ (l : List Item). Lawful insts' input l) f (subst (λ (l : List Inst). Lawful l input items) e h)

pub valid_from : (block : Block) (plan : Plan) (insts : List Inst) (items : List Item) → insts ≡ insts_of block → items ≡ items_of plan
    → Lawful insts block.input items
    → (length (items_of plan) ≡ plan.place + end_count block.end)
    × (falls block.end ≡ false → StandsAt (items_of plan) plan.place (length (insts_of block) - 1))
    → plan.place ≤ padded_place block → Valid block plan
valid_from block plan insts items e f h end room =
    let l = moved insts (insts_of block) block.input items (items_of plan) e f h in
    record { once = l.once; terminator = end.1; tail = end.0; order = l.order; apart = l.apart; last = l.last; room = room }

pub lawful_from : (block : Block) (plan : Plan) (insts : List Inst) (items : List Item) → insts ≡ insts_of block → items ≡ items_of plan → Valid block plan
    → Lawful insts block.input items
lawful_from block plan insts items e f v =
    moved (insts_of block) insts block.input (items_of plan) items (sym e) (sym f) (record { once = v.once; order = v.order; apart = v.apart; last = v.last })
