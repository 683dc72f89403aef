-- What stands in a list of items.
use Rattle.std.specs.Prelude.{◌≡◌, ℕ, suc, cond, eqb, List, [], ◌∷◌, Some, slice_get}
use Rattle.mx_blocks.specs.declared.block.Item.{Item}
use Rattle.mx_blocks.specs.declared.block.Item.TheVariants.{Op, Nop}

-- item p is instruction k
abbrev pub StandsAt : List Item → ℕ → ℕ → Type 0
StandsAt items p k = slice_get items p ≡ Some (Op k)

-- the numbers that stand in a list, in its order
abbrev pub ops : List Item → List ℕ
ops [] = []
ops (Op k ∷ items) = k ∷ ops items
ops (Nop ∷ items) = ops items

-- how often a number stands in a list of numbers
abbrev pub times : ℕ → List ℕ → ℕ
times k [] = 0
times k (j ∷ js) = cond (eqb k j) (suc (times k js)) (times k js)
