-- Each block has a greedy plan.
use Rattle.std.proofs.Common.{◌≡◌, ℕ, zero, suc, ◌+◌, ◌<◌, ◌≤◌, false, List, [], ◌∷◌, ◌++◌, length, length-append, Some, refl, sym, ap, ◌∙◌, ⊎_elim, inl, inr, arith}
use Rattle.std.specs.Prelude.{slice_get, slice_index_or, take}
use Rattle.std.proofs.lemmas.Bool.{true≢false}
use Rattle.mx_isa.specs.Views.{is_load}
use Rattle.mx_depend.specs.Graphs.{inst_at}
use Rattle.mx_depend.proofs.Decided.{Decided, both, all_below, bool_decided}
use Rattle.mx_blocks.specs.declared.block.Block.{Block}
use Rattle.mx_blocks.specs.declared.block.Plan.{Plan}
use Rattle.mx_blocks.specs.declared.block.End.{End}
use Rattle.mx_blocks.specs.declared.block.End.TheVariants.{Falls, Halts, Branches, Calls, Jumps}
use Rattle.mx_blocks.specs.declared.block.Item.{Item}
use Rattle.mx_blocks.specs.declared.block.Item.TheVariants.{Op, Nop}
use Rattle.mx_validate.specs.Padded.{insts_of, falls, body_count}
use Rattle.mx_validate.specs.Validity.{end_count}
use Rattle.mx_reorg.specs.Greedy.{Stands, Fills, AllStand, RestFits, MayEnd, terminator, loads}
use Rattle.mx_reorg.specs.Making.{Grows}
use Rattle.mx_reorg.specs.GreedyPlans.{GreedyExists}
use Rattle.mx_reorg.proofs.Choices.{rest_same}
use Rattle.mx_reorg.proofs.Fronts.{grows_none, grows_push, greedy_from, slots_filled}
use Rattle.mx_reorg.proofs.Spent.{Cost, total, cost_none, cost_grows, short}
use Rattle.mx_reorg.proofs.ExistsItems.{filled, height_of, stands_decided, last_decided, ready_decided}

all_decided : (block : Block) (items : List Item) → Decided (AllStand block items)
all_decided block items = all_below (Stands items) (body_count block) (stands_decided items)

rest_decided : (block : Block) (before : List Item) → Decided (RestFits block before)
rest_decided block before =
    let behind = before ++ Op (terminator block) ∷ [] in
    let first = filled block behind in
    let second = filled block (behind ++ first.item ∷ []) in
    ⊎_elim
    (λ yes. inl (record {
      first = first.item;
      second = second.item;
      first_fills = first.fills;
      second_fills = second.fills;
      all = yes.0;
      no_load = yes.1;
    }))
    (λ none. inr (λ r. none (rest_same block before first.item second.item (λ x l. height_of block x) first.fills second.fills r)))
    (both _ _ (all_decided block (behind ++ first.item ∷ [] ++ second.item ∷ [])) (bool_decided (loads block second.item) false))

leaves_decided : (block : Block) (items : List Item) → Decided (MayEnd Jumps block items)
leaves_decided block items = both _ _ (ready_decided block items (terminator block)) (rest_decided block items)

end_decided : (end : End) (block : Block) (items : List Item) → Decided (MayEnd end block items)
end_decided Falls block items = both _ _ (all_decided block items) (last_decided items (λ k. is_load (inst_at (insts_of block) k)))
end_decided Halts block items = all_decided block items
end_decided (Branches target) block items = leaves_decided block items
end_decided (Calls target) block items = leaves_decided block items
end_decided Jumps block items = leaves_decided block items

-- all that stands before the terminator's place
record Front (block : Block) : Type 0 where
  items : List Item
  grows : Grows block items
  ends : MayEnd block.end block items

-- a list that grows ends, as it cannot cost more than all body instructions do
front_from : (block : Block) (n : ℕ) (items : List Item) → total (insts_of block) (body_count block) ≤ length items + n → Grows block items → Cost block items
    → Front block
front_from block zero items room grows cost = ⊎_elim
    (λ yes. record { items = items; grows = grows; ends = yes })
    (λ none.
    let next = filled block items in
    let low = short block (items ++ next.item ∷ []) (cost_grows block items next.item next.fills none cost) in
    let size = length-append items (next.item ∷ []) in
    absurd (omega arith))
    (end_decided block.end block items)
front_from block (suc n) items room grows cost = ⊎_elim
    (λ yes. record { items = items; grows = grows; ends = yes })
    (λ none.
    let next = filled block items in
    let size = length-append items (next.item ∷ []) in
    front_from block n (items ++ next.item ∷ []) (omega arith) (grows_push block items next.item grows none next.fills)
    (cost_grows block items next.item next.fills none cost))
    (end_decided block.end block items)

front : (block : Block) → Front block
front block = front_from block (total (insts_of block) (body_count block)) [] (omega arith) (grows_none block [] refl) (cost_none block [] refl)

-- what follows a front
record Back (block : Block) (front : List Item) : Type 0 where
  rest : List Item
  count : length rest ≡ end_count block.end
  starts : falls block.end ≡ false → slice_get rest 0 ≡ Some (Op (terminator block))
  slots : (q : ℕ) → 1 ≤ q → q < length rest → Fills block (front ++ take q rest) (slice_index_or rest q Nop)

transfer : (block : Block) (front : List Item) → 3 ≡ end_count block.end → Back block front
transfer block front e =
    let first = filled block (front ++ Op (terminator block) ∷ []) in
    let second = filled block (front ++ Op (terminator block) ∷ [] ++ first.item ∷ []) in
    record {
      rest = Op (terminator block) ∷ first.item ∷ second.item ∷ [];
      count = e;
      starts = λ f. refl;
      slots = slots_filled block front first.item second.item first.fills second.fills;
    }

back : (block : Block) (front : List Item) (end : End) → block.end ≡ end → Back block front
back block front Falls e = record {
  rest = [];
  count = ap end_count (sym e);
  starts = λ f. absurd (true≢false (sym (ap falls e) ∙ f));
  slots = λ q l m. absurd (omega arith);
}
back block front Halts e = record {
  rest = Op (terminator block) ∷ [];
  count = ap end_count (sym e);
  starts = λ f. refl;
  slots = λ q l m. absurd (omega arith);
}
back block front (Branches target) e = transfer block front (ap end_count (sym e))
back block front (Calls target) e = transfer block front (ap end_count (sym e))
back block front Jumps e = transfer block front (ap end_count (sym e))

pub greedy_exists : GreedyExists
greedy_exists block =
    let f = front block in
    let b = back block f.items block.end refl in
    let plan : Plan = record { items = record { items = f.items ++ b.rest }; place = length f.items } in
    (plan, greedy_from block plan f.items b.rest f.grows f.ends refl refl b.count b.starts b.slots)
