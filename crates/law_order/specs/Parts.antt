-- The parts of a plan: what stands before the terminator's place, and what stands from there on.
use Rattle.std.specs.Prelude.{◌≡◌, ℕ, ◌*◌, ◌<◌, ◌≤◌, List, [], ◌∷◌, ◌++◌, length, take, Option}
use Rattle.mx_isa.specs.declared.inst.Inst.{Inst}
use Rattle.mx_isa.specs.declared.place.Place.{Place}
use Rattle.mx_isa.specs.Effect.{decides}
use Rattle.mx_depend.specs.Graphs.{inst_at}
use Rattle.mx_blocks.specs.declared.block.Block.{Block}
use Rattle.mx_blocks.specs.declared.block.Plan.{Plan}
use Rattle.mx_blocks.specs.declared.block.Item.{Item}
use Rattle.mx_blocks.specs.declared.block.Item.TheVariants.{Op, Nop}
use Rattle.mx_blocks.specs.declared.block.End.{End}
use Rattle.mx_blocks.specs.declared.block.End.TheVariants.{Falls, Halts}
use Rattle.mx_validate.specs.Padded.{items_of, body_count}
use Rattle.mx_validate.specs.Validity.{Valid}
use Rattle.law_order.specs.Running.{Ran, run_source, run_items}
use Rattle.law_order.specs.Laws.{IsPlanned}

-- instructions with numbers below n, and no-ops
abbrev pub AreBelow : ℕ → List Item → Type 0
AreBelow n [] = Unit {0}
AreBelow n (Op k ∷ items) = (k < n) × AreBelow n items
AreBelow n (Nop ∷ items) = AreBelow n items

-- a transfer behind a body of so many instructions, and its two slots
pub record IsTransfer (body : ℕ) (back : List Item) : Type 0 where
  pub first : Item
  pub second : Item
  pub is : back ≡ Op body ∷ first ∷ second ∷ []
  pub slots : AreBelow body (first ∷ second ∷ [])

-- what stands from the terminator's place on, by how the block ends
abbrev pub EndsWith : End → ℕ → List Item → Type 0
EndsWith Falls body back = back ≡ []
EndsWith Halts body back = back ≡ Op body ∷ []
EndsWith _ body back = IsTransfer body back

pub record Parts (block : Block) (plan : Plan) : Type 0 where
  pub front : List Item
  pub back : List Item
  pub whole : items_of plan ≡ front ++ back
  pub place : plan.place ≡ length front
  -- of the body and no-ops, at most two places for each instruction
  pub body : AreBelow (body_count block) front
  pub room : length front ≤ 2 * body_count block
  pub end : EndsWith block.end (body_count block) back

-- a valid plan has these parts
abbrev pub ValidPlanHasParts : Type 0
ValidPlanHasParts = (block : Block) (plan : Plan) → Valid block plan → Parts block plan

-- the terminator decides at its place in a valid plan what it decides behind the body in source order
abbrev pub TerminatorDecidesAlike : Type 0
TerminatorDecidesAlike =
    (block : Block) (plan : Plan) (insts : List Inst) (p : Place) (input : Option (List ℕ)) (at : ℕ) (s : Ran) (parts : Parts block plan)
    → IsPlanned block plan insts input
    → let last = inst_at insts (body_count block) in
    decides last at (run_items p input at insts parts.front s).core.regs ≡ decides last at (run_source p input at (take (body_count block) insts) s).core.regs
