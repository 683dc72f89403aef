-- The order of a valid plan keeps what its block does.
use Rattle.std.specs.Prelude.{◌≡◌, ℕ, pos, true, false, List, map, take, Option, is_some}
use Rattle.std.specs.List.{All}
use Rattle.mx_isa.specs.declared.inst.Inst.{Inst}
use Rattle.mx_isa.specs.declared.inst.Inst.TheVariants.{Branch, Addi, Jspci}
use Rattle.mx_isa.specs.declared.place.Place.{Place}
use Rattle.mx_isa.specs.Fields.{InstFits}
use Rattle.mx_delay.specs.Prefixes.{IsPrefix}
use Rattle.mx_blocks.specs.declared.block.Block.{Block}
use Rattle.mx_blocks.specs.declared.block.Plan.{Plan}
use Rattle.mx_validate.specs.Padded.{insts_of, items_of}
use Rattle.mx_validate.specs.Validity.{Valid}
use Rattle.law_order.specs.Running.{Ran, run_source, run_items}

-- an instruction but for what may depend on where code stands: a displacement, a squash bit, an immediate
abbrev pub unplaced : Inst → Inst
unplaced (Branch a b condition squash by) = Branch a b condition false (pos 0)
unplaced (Addi a dest imm) = Addi a dest (pos 0)
unplaced (Jspci a dest imm) = Jspci a dest (pos 0)
unplaced i = i

-- a valid plan of a block, and the block's instructions as they are laid out, with these fields filled in;
-- the program has input only where the block keeps loads in order
pub record IsPlanned (block : Block) (plan : Plan) (insts : List Inst) (input : Option (List ℕ)) : Type 0 where
  pub valid : Valid block plan
  pub filled : map unplaced insts ≡ map unplaced (insts_of block)
  pub fits : All InstFits insts
  pub ordered : is_some input ≡ true → block.input ≡ true

-- one after another, the items do what the instructions do in source order
abbrev pub ValidOrderKeepsEffect : Type 0
ValidOrderKeepsEffect =
    (block : Block) (plan : Plan) (insts : List Inst) (p : Place) (input : Option (List ℕ)) (at : ℕ) (s : Ran)
    → IsPlanned block plan insts input
    → run_items p input at insts (items_of plan) s ≡ run_source p input at insts s

-- where each access is lawful in source order, it is in the order of the plan, up to each place,
-- and the bytes up to there are a prefix of those in source order
abbrev pub ValidOrderStaysClean : Type 0
ValidOrderStaysClean =
    (block : Block) (plan : Plan) (insts : List Inst) (p : Place) (input : Option (List ℕ)) (at : ℕ) (s : Ran) (n : ℕ)
    → IsPlanned block plan insts input
    → (run_source p input at insts s).clean ≡ true
    → let ran = run_items p input at insts (take n (items_of plan)) s in
    (ran.clean ≡ true) × IsPrefix ran.bytes (run_source p input at insts s).bytes
