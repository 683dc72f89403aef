-- The rules of a valid plan, each by its name, and the first that a plan breaks.
use Rattle.std.specs.Prelude.{◌≡◌, ℕ, ◌+◌, ◌-◌, ◌≤◌, ◌<◌, ◌↔◌, false, length, Option, Some, None}
use Rattle.mx_blocks.specs.declared.Block.{Block}
use Rattle.mx_blocks.specs.declared.Plan.{Plan}
use Rattle.mx_blocks.specs.Items.{StandsAt}
use Rattle.mx_validate.specs.Padded.{insts_of, items_of, falls, padded_place}
use Rattle.mx_validate.specs.Validity.{Valid, EachOnce, KeepsOrder, KeepsApart, EndsWithoutLoad, end_count}
use Rattle.mx_plans.specs.declared.rule.Rule.{Rule}
use Rattle.mx_plans.specs.declared.rule.Rule.TheVariants.{Once, Terminator, Tail, Order, Delay, LastLoad, Room}

-- the place of a rule among the rules
abbrev pub rank : Rule → ℕ
rank Once = 1
rank Terminator = 2
rank Tail = 3
rank Order = 4
rank Delay = 5
rank LastLoad = 6
rank Room = 7

-- the plan keeps the rule
abbrev pub Keeps : Block → Plan → Rule → Type 0
-- each instruction stands once, and no other number stands
Keeps block plan Once = EachOnce (length (insts_of block)) (items_of plan)
-- the terminator, if there is one, stands at the plan's place
Keeps block plan Terminator = falls block.end ≡ false → StandsAt (items_of plan) plan.place (length (insts_of block) - 1)
-- two items follow a transfer and nothing a halt, and where a block falls through the place is the length
Keeps block plan Tail = length (items_of plan) ≡ plan.place + end_count block.end
-- two instructions that stand in the opposite order of the source are independent
Keeps block plan Order = KeepsOrder (insts_of block) block.input (items_of plan)
-- no load is directly followed by a reader of its register
Keeps block plan Delay = KeepsApart (insts_of block) (items_of plan)
-- the last item is not a load
Keeps block plan LastLoad = EndsWithoutLoad (insts_of block) (items_of plan)
-- no more items stand before the place than in the padded plan
Keeps block plan Room = plan.place ≤ padded_place block

-- the plan breaks the rule, and keeps each rule before it
pub record IsFirstBroken (block : Block) (plan : Plan) (rule : Rule) : Type 0 where
  pub broken : ¬ Keeps block plan rule
  pub before : (other : Rule) → rank other < rank rule → Keeps block plan other

-- no rule is broken, or this is the first
abbrev pub IsVerdict : Block → Plan → Option Rule → Type 0
IsVerdict block plan None = Valid block plan
IsVerdict block plan (Some rule) = IsFirstBroken block plan rule

-- a plan is valid exactly where it keeps each rule
abbrev pub ValidKeepsRules : Type 0
ValidKeepsRules = (block : Block) (plan : Plan) → Valid block plan ↔ ((rule : Rule) → Keeps block plan rule)

-- there is at most one verdict on a plan
abbrev pub VerdictIsOne : Type 0
VerdictIsOne =
    (block : Block) (plan : Plan) (verdict other : Option Rule) → IsVerdict block plan verdict → IsVerdict block plan other → verdict ≡ other
