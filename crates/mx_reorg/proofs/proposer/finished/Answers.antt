use Rattle.std.proofs.Common.{[], ◌∷◌, refl, sym, ap, ◌∙◌, arith}
use Rattle.mx_blocks.specs.declared.block.Item.TheVariants.{Op}
use Rattle.mx_validate.specs.Validity.{end_count}
use Rattle.mx_reorg.specs.Greedy.{terminator}
use Rattle.mx_reorg.proofs.Fronts.{grows_low, greedy_from, slots_filled, three_items, three_behind}
use Rattle.mx_reorg.proofs.proposer.finished.Goals as goal

pub push_slots-second-requires : goal.push_slots-second-requires
push_slots-second-requires c = record {
  graph = c.requires.graph;
  known = grows_low c.args.block.now c.args.front.items c.requires.front.grows;
  room = let short = c.requires.front.short in omega arith;
}

pub returns-in-Halts : goal.returns-in-Halts
returns-in-Halts c =
    let block = c.args.block.now in
    greedy_from block _ c.args.front.items
    (Op (terminator block) ∷ []) c.requires.front.grows c.requires.front.ends c.push_terminator.ensures.items c.len-place.ensures.value
    (ap end_count (sym c.in-Halts.is)) (λ f. refl) (λ q l m. absurd (omega arith))

pub returns-in_default : goal.returns-in_default
returns-in_default c =
    let block = c.args.block.now in
    let front = c.args.front.items in
    let s = c.push_slots-second.ensures.slots in
    let second = c.push_slots-second.result in
    let t = terminator block in
    greedy_from block _ front (Op t ∷ s.first ∷ second ∷ []) c.requires.front.grows c.requires.front.ends
    (s.is ∙ three_items front (Op t) s.first second)
    c.len-place.ensures.value
    (sym (three_behind block.end c.in_default.not-Falls c.in_default.not-Halts))
    (λ f. refl)
    (slots_filled block front s.first second s.first_fills s.second_fills)
