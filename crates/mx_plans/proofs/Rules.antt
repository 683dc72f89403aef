-- The rules of a valid plan.
use Rattle.std.proofs.Common.{◌≡◌, ℕ, ◌+◌, ◌<◌, ◌≤◌, List, length, Some, None, refl, sym, ap, ◌∙◌, subst, cond, nat_eq, arith, ⊎_elim}
use Rattle.std.proofs.lemmas.Bool.{cases_lt}
use Rattle.mx_blocks.specs.declared.Block.{Block}
use Rattle.mx_blocks.specs.declared.Plan.{Plan}
use Rattle.mx_isa.specs.declared.inst.Inst.{Inst}
use Rattle.mx_blocks.specs.declared.Item.{Item}
use Rattle.mx_blocks.specs.Items.{StandsAt}
use Rattle.mx_validate.specs.Validity.{Valid, EachOnce}
use Rattle.mx_validate.proofs.Listed.{once_below}
use Rattle.mx_plans.specs.declared.rule.Rule.{Rule}
use Rattle.mx_plans.specs.declared.rule.Rule.TheVariants.{Once, Terminator, Tail, Order, Delay, LastLoad, Room}
use Rattle.mx_plans.specs.Rules.{rank, Keeps, ValidKeepsRules, VerdictIsOne}

pub keeps_each : (block : Block) (plan : Plan) → Valid block plan → (rule : Rule) → Keeps block plan rule
keeps_each block plan v Once = v.once
keeps_each block plan v Terminator = v.terminator
keeps_each block plan v Tail = v.tail
keeps_each block plan v Order = v.order
keeps_each block plan v Delay = v.apart
keeps_each block plan v LastLoad = v.last
keeps_each block plan v Room = v.room

pub valid_by_rules : (block : Block) (plan : Plan) → ((rule : Rule) → Keeps block plan rule) → Valid block plan
valid_by_rules block plan k = record {
  once = k Once;
  terminator = k Terminator;
  tail = k Tail;
  order = k Order;
  apart = k Delay;
  last = k LastLoad;
  room = k Room;
}

pub valid_keeps_rules : ValidKeepsRules
valid_keeps_rules block plan = (keeps_each block plan, valid_by_rules block plan)

abbrev of_rank : ℕ → Rule
of_rank n =
    cond (nat_eq n 1) Once
    (cond (nat_eq n 2) Terminator
    (cond (nat_eq n 3) Tail
    (cond (nat_eq n 4) Order
    (cond (nat_eq n 5) Delay
    (cond (nat_eq n 6) LastLoad Room)))))

of_its_rank : (rule : Rule) → of_rank (rank rule) ≡ rule
of_its_rank Once = refl
of_its_rank _ = refl

same_rule : (rule other : Rule) → rank rule ≡ rank other → rule ≡ other
same_rule rule other e = sym (of_its_rank rule) ∙ ap of_rank e ∙ of_its_rank other

pub verdict_is_one : VerdictIsOne
verdict_is_one block plan None None v w = refl
verdict_is_one block plan None (Some rule) v w = absurd (w.broken (keeps_each block plan v rule))
verdict_is_one block plan (Some rule) None v w = absurd (v.broken (keeps_each block plan w rule))
verdict_is_one block plan (Some rule) (Some other) v w = ⊎_elim
    (λ (l : rank rule < rank other). absurd (v.broken (w.before rule l)))
    (λ g. ⊎_elim
    (λ (l : rank other < rank rule). absurd (w.broken (v.before other l)))
    (λ h. ap (λ r. Some r) (same_rule rule other (omega arith)))
    (cases_lt (rank other) (rank rule)))
    (cases_lt (rank rule) (rank other))

pub rank_small : (rule : Rule) → rank rule ≤ 7
rank_small Once = omega arith
rank_small _ = omega arith

pub below_first : (rule : Rule) → rank rule < 1 → ⊥
below_first Once l = omega arith
below_first _ l = omega arith

module _ (block : Block) (plan : Plan) (rule : Rule) where
  -- up to a rule that is kept
  pub kept_to : ((other : Rule) → rank other < rank rule → Keeps block plan other) → Keeps block plan rule → (other : Rule) → rank other ≤ rank rule
      → Keeps block plan other
  kept_to below here other l = ⊎_elim
      (λ (b : rank other < rank rule). below other b)
      (λ (g : rank rule ≤ rank other). subst (Keeps block plan) (same_rule rule other (omega arith)) here)
      (cases_lt (rank other) (rank rule))

pub kept_more : (block : Block) (plan : Plan) (rule later : Rule) → rank later ≡ rank rule + 1
    → ((other : Rule) → rank other < rank rule → Keeps block plan other) → Keeps block plan rule → (other : Rule) → rank other < rank later
    → Keeps block plan other
kept_more block plan rule later e below here other l = kept_to block plan rule below here other (omega arith)

-- what holds of lists holds of the same lists
pub along : (P : List Inst → List Item → Type 0) (insts insts' : List Inst) (items items' : List Item) → insts ≡ insts' → items ≡ items' → P insts items
    → P insts' items'
along P insts insts' items items' e f h = subst (λ (l : List Item). P insts' l) f (subst (λ (l : List Inst). P l items) e h)

pub known_of : (insts insts' : List Inst) (items items' : List Item) → insts ≡ insts' → items ≡ items' → EachOnce (length insts') items'
    → (p k : ℕ) → StandsAt items p k → k < length insts
known_of insts insts' items items' e f once =
    along (λ (is : List Inst) (xs : List Item). (p k : ℕ) → StandsAt xs p k → k < length is) insts' insts items' items (sym e) (sym f)
    (once_below (length insts') items' once)
