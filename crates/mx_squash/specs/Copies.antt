-- Which words of a target may fill the slots of a transfer that goes there.
use Rattle.std.specs.Prelude.{ℕ, ◌+◌, ◌-◌, min, Bool, true, false, cond, eqb, leb, ltb, not, ◌&&◌, ◌||◌, List, [], ◌∷◌, length, Option, Some, None, slice_get, slice_index_or}
use Rattle.mx_isa.specs.declared.inst.Cond.TheVariants.{Eq}
use Rattle.mx_isa.specs.declared.inst.Inst.{Inst}
use Rattle.mx_isa.specs.declared.inst.Inst.TheVariants.{Branch}
use Rattle.mx_depend.specs.Independence.{feeds}
use Rattle.mx_blocks.specs.declared.block.Block.{Block}
use Rattle.mx_blocks.specs.declared.block.Plan.{Plan}
use Rattle.mx_blocks.specs.declared.block.Item.{Item}
use Rattle.mx_blocks.specs.declared.block.Item.TheVariants.{Op, Nop}
use Rattle.mx_blocks.specs.declared.block.End.{End}
use Rattle.mx_blocks.specs.declared.block.End.TheVariants.{Branches, Calls}
use Rattle.mx_squash.specs.declared.copying.Copied.{Copied}

-- a block, its plan, and the address of its first word
pub record Site : Type 0 where
  pub block : Block
  pub plan : Plan
  pub start : ℕ

abbrev pub sites : List Block → List Plan → List ℕ → List Site
sites (b ∷ blocks) (p ∷ plans) (s ∷ starts) = record { block = b; plan = p; start = s } ∷ sites blocks plans starts
sites _ _ _ = []

-- the block begins where a block that ends so goes
abbrev pub is_target : End → Block → Bool
is_target (Branches target) block = eqb block.first target
is_target (Calls target) block = eqb block.first target
is_target _ block = false

-- the first site whose block passes
abbrev pub site_of : (Block → Bool) → List Site → Option Site
site_of test [] = None
site_of test (s ∷ others) = cond (test s.block) (Some s) (site_of test others)

-- the item is an instruction, and no no-op
abbrev pub is_op : Option Item → Bool
is_op (Some (Op k)) = true
is_op _ = false

-- item k of a plan is an instruction that stands before the terminator's place
abbrev pub may_copy : Plan → ℕ → Bool
may_copy plan k = ltb k plan.place && is_op (slice_get plan.items.items k)

-- the length of the longest front of at most two items that may be copied
abbrev pub copyable : Plan → ℕ
copyable plan = cond (may_copy plan 0) (cond (may_copy plan 1) 2 1) 0

abbrev pub is_nop : Option Item → Bool
is_nop (Some Nop) = true
is_nop _ = false

-- what stands in slot 1 or 2
abbrev pub slot : Plan → ℕ → Option Item
slot plan n = slice_get plan.items.items (plan.place + n)

-- beq r0,r0, which always goes
abbrev pub always_goes : Option Inst → Bool
always_goes (Some (Branch a b Eq squash by)) = eqb a 0 && eqb b 0
always_goes _ = false

-- the last instruction of a block
abbrev pub terminator : Block → Option Inst
terminator block = slice_get block.insts.items (length block.insts.items - 1)

abbrev pub is_branch_end : End → Bool
is_branch_end (Branches target) = true
is_branch_end _ = false

-- a conditional branch that may not go, other than beq r0,r0
abbrev pub may_stay : Block → Bool
may_stay block = is_branch_end block.end && not (always_goes (terminator block))

-- how many words fit into slots that hold no-ops: both slots or, where the transfer always goes, the second alone
abbrev pub room_for : End → Bool → Bool → Bool → ℕ
room_for (Branches target) stays first second = cond (first && second) 2 (cond (second && not stays) 1 0)
room_for (Calls target) stays first second = cond (first && second) 2 (cond second 1 0)
room_for _ stays first second = 0

abbrev pub room : Block → Plan → ℕ
room block plan = room_for block.end (may_stay block) (is_nop (slot plan 1)) (is_nop (slot plan 2))

-- the displacement from one address to another is from -32768 to 32767
abbrev pub reaches : ℕ → ℕ → Bool
reaches from to = leb to (from + 32767) && leb from (to + 32768)

-- the instruction of an item
abbrev pub item_inst : Block → Option Item → Option Inst
item_inst block (Some (Op k)) = slice_get block.insts.items k
item_inst block _ = None

abbrev pub feeds_any : Option Inst → Option Inst → Bool
feeds_any (Some load) (Some reader) = feeds load reader
feeds_any _ _ = false

-- slot 1 is a load of a register that the first word of the target reads
abbrev pub is_hazard : Block → Plan → Block → Plan → Bool
is_hazard block plan goal goal_plan = feeds_any (item_inst block (slot plan 1)) (item_inst goal (slice_get goal_plan.items.items 0))

-- the lesser of the room and of what may be copied
abbrev pub most : Site → Site → ℕ
most site goal = min (room site.block site.plan) (copyable goal.plan)

-- a branch would not reach its target, moved on by the copies
abbrev pub is_too_far : Site → Site → Bool
is_too_far site goal = is_branch_end site.block.end && not (reaches (site.start + site.plan.place) (goal.start + most site goal))

-- slot 2 alone is free, behind a load of a register that the copied word reads
abbrev pub is_fed : Site → Site → Bool
is_fed site goal = eqb (room site.block site.plan) 1 && is_hazard site.block site.plan goal.block goal.plan

-- how many words are copied
abbrev pub count : Site → Site → ℕ
count site goal = cond (is_too_far site goal || is_fed site goal) 0 (most site goal)

-- what goes into slot 1 and slot 2, a no-op where the slot keeps its own item: from slot 1 on where both are free, else into slot 2
abbrev pub filled : ℕ → ℕ → Item → Item → List Item
filled free n first second =
    cond (eqb n 0) (Nop ∷ Nop ∷ [])
    (cond (eqb free 1) (Nop ∷ first ∷ [])
    (cond (eqb n 1) (first ∷ Nop ∷ []) (first ∷ second ∷ [])))

abbrev pub item_at : Plan → ℕ → Item
item_at plan k = slice_index_or plan.items.items k Nop

abbrev pub no_copies : Copied
no_copies = record { from = Nop ∷ Nop ∷ []; count = 0; squash = false }

-- so many words of a target's plan, copied into the slots of a block's; a branch that may not go then squashes
abbrev pub copied_words : ℕ → Block → Plan → Plan → Copied
copied_words n block plan goal_plan = record {
  from = filled (room block plan) n (item_at goal_plan 0) (item_at goal_plan 1);
  count = n;
  squash = ltb 0 n && may_stay block;
}

-- the copies of a transfer to this target; a target past the last statement has no words
abbrev pub copied : Site → Option Site → Copied
copied site None = no_copies
copied site (Some goal) = copied_words (count site goal) site.block site.plan goal.plan

-- the copies of the block at a site among all
abbrev pub copies_at : List Site → Option Site → Copied
copies_at all None = no_copies
copies_at all (Some site) = copied site (site_of (is_target site.block.end) all)
