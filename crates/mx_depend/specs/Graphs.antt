-- The dependence graph of a list of instructions, which are known by their numbers.
use Rattle.std.specs.Prelude.{◌≡◌, ◌==◌, ◌↔◌, ℕ, ◌+◌, ◌<◌, ◌≤◌, Bool, IsTrue, cond, List, [], ◌∷◌, length, slice_index, slice_index_or}
use Rattle.std.specs.Int.{bit_at}
use Rattle.mx_isa.specs.declared.inst.Inst.{Inst}
use Rattle.mx_isa.specs.declared.inst.Inst.TheVariants.{Halt}
use Rattle.mx_depend.specs.Independence.{Independent, feeds}

-- instruction k; past the end of the list a halt
abbrev pub inst_at : List Inst → ℕ → Inst
inst_at insts k = slice_index_or insts k Halt

-- an edge goes from x to a later y where the two are not independent
pub record IsEdge (insts : List Inst) (input : Bool) (x y : ℕ) : Type 0 where
  pub later : x < y
  pub within : y < length insts
  pub depends : ¬ Independent (inst_at insts x) (inst_at insts y) input

-- an edge from a load to a reader of its register weighs 2, any other 1
abbrev pub weight : List Inst → ℕ → ℕ → ℕ
weight insts x y = cond (feeds (inst_at insts x) (inst_at insts y)) 2 1

-- edges lead from x to the first of these numbers, and from each to the next
abbrev pub IsPath : List Inst → Bool → ℕ → List ℕ → Type 0
IsPath insts input x [] = Unit {0}
IsPath insts input x (y ∷ path) = IsEdge insts input x y × IsPath insts input y path

-- the weight of a path from x
abbrev pub path_weight : List Inst → ℕ → List ℕ → ℕ
path_weight insts x [] = 0
path_weight insts x (y ∷ path) = weight insts x y + path_weight insts y path

-- h is the greatest weight of a path from x
pub record IsHeight (insts : List Inst) (input : Bool) (x h : ℕ) : Type 0 where
  pub path : List ℕ
  pub leads : IsPath insts input x path
  pub weighs : path_weight insts x path ≡ h
  pub greatest : (other : List ℕ) → IsPath insts input x other → path_weight insts x other ≤ h

-- a set of numbers below 64, as bits, has this number
abbrev pub has_bit : ℕ → ℕ → Bool
has_bit mask x = bit_at mask x == 1

-- the mask has exactly the numbers from which an edge goes to y
abbrev pub IsMask : List Inst → Bool → ℕ → ℕ → Type 0
IsMask insts input y mask = (x : ℕ) → IsTrue (has_bit mask x) ↔ IsEdge insts input x y

-- What a graph keeps: how many instructions, a mask for each, and a height for each.
pub record GraphValue : Type 0 where
  pub count : ℕ
  pub masks : List ℕ
  pub heights : List ℕ

-- the graph of these instructions
pub record IsGraph (insts : List Inst) (input : Bool) (g : GraphValue) : Type 0 where
  pub count : g.count ≡ length insts
  pub masks : (y : ℕ) → y < length insts → IsMask insts input y (slice_index g.masks y)
  pub heights : (x : ℕ) → x < length insts → IsHeight insts input x (slice_index g.heights x)
