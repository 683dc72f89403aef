-- How the last instruction of a block goes with its end.
use Rattle.std.specs.Prelude.{◌≡◌, ℕ, ◌-◌, ◌<◌, suc, Bool, true, false, not, ◌||◌, List, length, Option, Some, None, slice_get}
use Rattle.mx_isa.specs.declared.inst.Inst.{Inst}
use Rattle.mx_isa.specs.declared.inst.Inst.TheVariants.{Branch, Jspci}
use Rattle.mx_isa.specs.Views.{is_transfer, is_halt}
use Rattle.mx_blocks.specs.declared.block.End.{End}
use Rattle.mx_blocks.specs.declared.block.End.TheVariants.{Falls, Halts, Branches, Calls, Jumps}

abbrev pub is_branch : Inst → Bool
is_branch (Branch a b condition squash by) = true
is_branch _ = false

abbrev pub is_jump : Inst → Bool
is_jump (Jspci a dest imm) = true
is_jump _ = false

-- a transfer or a halt, after which a block ends
abbrev pub is_last : Inst → Bool
is_last i = is_transfer i || is_halt i

-- what a block that ends so has as its last instruction
abbrev pub end_is : End → Inst → Bool
end_is Falls i = not (is_last i)
end_is Halts i = is_halt i
end_is (Branches target) i = is_branch i
end_is (Calls target) i = is_jump i
end_is Jumps i = is_jump i

abbrev pub is_some_and : Option Inst → (Inst → Bool) → Bool
is_some_and None p = false
is_some_and (Some i) p = p i

-- the last of a list is as the end says, so that there is one
abbrev pub ends_as : End → List Inst → Bool
ends_as end insts = is_some_and (slice_get insts (length insts - 1)) (end_is end)

-- no instruction before the last is a transfer or a halt
abbrev pub GoesOn : List Inst → Type 0
GoesOn insts = (k : ℕ) → suc k < length insts → is_some_and (slice_get insts k) is_last ≡ false
