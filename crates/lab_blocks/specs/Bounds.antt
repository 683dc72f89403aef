-- A lower bound for the length of every valid plan of a block: its critical path, or its number of instructions.
use Rattle.std.specs.Prelude.{◌≡◌, ℕ, ◌+◌, ◌-◌, ◌<◌, ◌≤◌, Bool, not, ◌&&◌, eqb, cond, List, [], ◌∷◌, length}
use Rattle.mx_isa.specs.Views.{is_load}
use Rattle.mx_depend.specs.Graphs.{inst_at, IsPath, weight}
use Rattle.mx_blocks.specs.declared.block.Block.{Block}
use Rattle.mx_blocks.specs.declared.block.Plan.{Plan}
use Rattle.mx_blocks.specs.Leaders.{size}
use Rattle.mx_validate.specs.Padded.{insts_of, items_of, falls}
use Rattle.mx_validate.specs.Validity.{Valid, end_count}

-- instruction k is the transfer or halt at the end of its block
abbrev pub is_terminator : Block → ℕ → Bool
is_terminator block k = not (falls block.end) && eqb k (size block - 1)

-- how many items a plan has from an instruction on, at least: the terminator with its slots; a load and another, as no load is last; else one
abbrev pub least_rest : Block → ℕ → ℕ
least_rest block k = cond (is_terminator block k) (end_count block.end) (cond (is_load (inst_at (insts_of block) k)) 2 1)

-- the same along a path: its weight, and the least rest of its last instruction
abbrev pub span : Block → ℕ → List ℕ → ℕ
span block x [] = least_rest block x
span block x (y ∷ path) = weight (insts_of block) x y + span block y path

-- s is the greatest span of a path from x
pub record IsSpan (block : Block) (x s : ℕ) : Type 0 where
  pub path : List ℕ
  pub leads : IsPath (insts_of block) block.input x path
  pub spans : span block x path ≡ s
  pub greatest : (other : List ℕ) → IsPath (insts_of block) block.input x other → span block x other ≤ s

-- n is not below the number of instructions, nor below the span of a path
pub record Bounds (block : Block) (n : ℕ) : Type 0 where
  pub count : size block ≤ n
  pub paths : (x : ℕ) (path : List ℕ) → x < size block → IsPath (insts_of block) block.input x path → span block x path ≤ n

-- n is the least number that is not: the maximum of these
pub record IsLowerBound (block : Block) (n : ℕ) : Type 0 where
  pub bounds : Bounds block n
  pub least : (m : ℕ) → Bounds block m → n ≤ m

-- no valid plan of a block has fewer items than its lower bound
abbrev pub NoPlanIsShorter : Type 0
NoPlanIsShorter = (block : Block) (plan : Plan) (n : ℕ) → Valid block plan → IsLowerBound block n → n ≤ length (items_of plan)
