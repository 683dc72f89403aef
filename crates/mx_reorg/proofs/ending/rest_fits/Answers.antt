use Rattle.std.proofs.Common.{◌≡◌, Bool, true, false, List, sym, ap, ◌∙◌, subst, refl}
use Rattle.std.specs.Prelude.{not}
use Rattle.std.proofs.lemmas.Bool.{false≢true}
use Rattle.mx_blocks.specs.declared.block.Item.{Item}
use Rattle.mx_reorg.specs.Greedy.{AllStand}
use Rattle.mx_reorg.specs.Making.{HasSlots}
use Rattle.mx_reorg.proofs.Choices.{heights_known}
use Rattle.mx_reorg.proofs.Fronts.{rest_of_slots, slots_of_rest}
use Rattle.mx_reorg.proofs.ending.rest_fits.Goals as goal

not_true : (b : Bool) → not b ≡ true → b ≡ false
not_true true e = sym e
not_true false e = refl

pub returns-then-all_stand : goal.returns-then-all_stand
returns-then-all_stand c =
    let block = c.args.block.now in
    let items = c.push_slots-second.new.items.items in
    let second = c.push_slots-second.result in
    let slots : HasSlots block c.args.before.now items second =
    subst (λ (l : List Item). HasSlots block l items second) c.copy_of-items.ensures c.push_slots-second.ensures.slots in
    let all : AllStand block items = subst (λ (l : List Item). AllStand block l) c.as_slice.ensures.value (c.all_stand.ensures.0 c.if-all_stand.true) in (
      λ t. rest_of_slots block c.args.before.now items second slots all (sym c.loads.ensures ∙ not_true c.loads.result t),
      λ r. ap not (c.loads.ensures ∙ (slots_of_rest block c.args.before.now items second (heights_known block c.args.graph.now c.requires.graph) slots r).1),
    )

pub returns-else-all_stand : goal.returns-else-all_stand
returns-else-all_stand c =
    let block = c.args.block.now in
    let items = c.push_slots-second.new.items.items in
    let second = c.push_slots-second.result in
    let slots : HasSlots block c.args.before.now items second =
    subst (λ (l : List Item). HasSlots block l items second) c.copy_of-items.ensures c.push_slots-second.ensures.slots in (
      λ t. absurd (false≢true (sym c.if-all_stand.false ∙ t)),
      λ r. c.all_stand.ensures.1
          (subst (λ (l : List Item). AllStand block l) (sym c.as_slice.ensures.value)
          (slots_of_rest block c.args.before.now items second (heights_known block c.args.graph.now c.requires.graph) slots r).0),
    )
