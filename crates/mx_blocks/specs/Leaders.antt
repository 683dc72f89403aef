-- Leaders and the blocks of a source.
use Rattle.std.specs.Prelude.{◌≡◌, ℕ, pos, zero, suc, ◌+◌, ◌-◌, ◌≤◌, ◌<◌, Bool, true, false, cond, eqb, ◌||◌, ◌⊎◌, List, [], ◌∷◌, length, map, Option, Some, None, is_some, slice_get, slice_range}
use Rattle.std.specs.Option.{option_map}
use Rattle.mx_isa.specs.declared.inst.Inst.{Inst}
use Rattle.mx_isa.specs.declared.inst.Inst.TheVariants.{Jspci, Addi}
use Rattle.mx_isa.specs.declared.inst.Inst.TheVariants.{Branch as BranchInst, Halt as HaltInst}
use Rattle.mx_source.specs.declared.statement.Statement.{Statement}
use Rattle.mx_source.specs.declared.statement.Statement.TheVariants.{Plain, LaCode, Branch, Call, CallReg, JumpReg, Halt}
use Rattle.mx_source.specs.Labels.{is_labelled}
use Rattle.mx_source.specs.SourceValue.{SourceValue}
use Rattle.mx_blocks.specs.declared.block.Block.{Block}
use Rattle.mx_blocks.specs.declared.block.End.{End}
use Rattle.mx_blocks.specs.declared.block.End.TheVariants.{Falls, Halts, Branches, Calls, Jumps}

-- a transfer or a halt
abbrev pub ends_block : Statement → Bool
ends_block (Plain inst) = false
ends_block (LaCode dest target) = false
ends_block _ = true

abbrev pub ends_there : Option Statement → Bool
ends_there None = false
ends_there (Some s) = ends_block s

-- how far statement i is from the last leader: leaders are statement 0, each labelled statement, each statement after a transfer
-- or a halt, and each 64th statement of a run without these
abbrev pub gap : (ℕ → Bool) → List Statement → ℕ → ℕ
gap labelled statements zero = 0
gap labelled statements (suc i) =
    cond (labelled (suc i) || (ends_there (slice_get statements i) || eqb (gap labelled statements i) 63)) 0 (suc (gap labelled statements i))

abbrev pub is_leader : SourceValue → ℕ → Bool
is_leader source i = eqb (gap (is_labelled source.labels) source.statements i) 0

-- the instruction of a statement, with 0 for what is not known yet: displacements and addresses of code
abbrev pub inst_of : Statement → Inst
inst_of (Plain inst) = inst
inst_of (LaCode dest target) = Addi 0 dest (pos 0)
inst_of (Branch a b condition target) = BranchInst a b condition false (pos 0)
inst_of (Call dest target) = Jspci 0 dest (pos 0)
inst_of (CallReg a dest) = Jspci a dest (pos 0)
inst_of (JumpReg a) = Jspci a 0 (pos 0)
inst_of Halt = HaltInst

-- how a block ends whose last statement is this one
abbrev pub end_of : Statement → End
end_of (Plain inst) = Falls
end_of (LaCode dest target) = Falls
end_of (Branch a b condition target) = Branches target
end_of (Call dest target) = Calls target
end_of (CallReg a dest) = Jumps
end_of (JumpReg a) = Jumps
end_of Halt = Halts

-- the number of instructions of a block
abbrev pub size : Block → ℕ
size block = length block.insts.items

-- a block of the source: from a leader up to the statement before the next one
pub record IsBlockOf (source : SourceValue) (block : Block) : Type 0 where
  pub leader : is_leader source block.first ≡ true
  pub some : 1 ≤ size block
  pub within : block.first + size block ≤ length source.statements
  pub inner : (t : ℕ) → 1 ≤ t → t < size block → is_leader source (block.first + t) ≡ false
  pub next : (is_leader source (block.first + size block) ≡ true) ⊎ (block.first + size block ≡ length source.statements)
  pub insts : block.insts.items ≡ map inst_of (slice_range source.statements block.first (block.first + size block))
  pub end : option_map end_of (slice_get source.statements (block.first + size block - 1)) ≡ Some block.end
  pub input : block.input ≡ is_some source.input

-- blocks of the source, each beginning where the one before it ended, of statements i and on up to the one before j
abbrev pub BlocksFrom : SourceValue → ℕ → ℕ → List Block → Type 0
BlocksFrom source i j [] = i ≡ j
BlocksFrom source i j (block ∷ blocks) =
    (block.first ≡ i) × IsBlockOf source block × BlocksFrom source (i + size block) j blocks

-- all the blocks of the source, in order
abbrev pub AreBlocks : SourceValue → List Block → Type 0
AreBlocks source blocks = BlocksFrom source 0 (length source.statements) blocks
