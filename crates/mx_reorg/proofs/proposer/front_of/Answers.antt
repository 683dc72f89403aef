use Rattle.std.proofs.Common.{◌≡◌, ◌+◌, ◌≤◌, List, [], ◌∷◌, ◌++◌, length, length-append, sym, ap, ◌∙◌, subst, arith}
use Rattle.std.proofs.lemmas.Bool.{false≢true}
use Rattle.mx_blocks.specs.declared.block.Item.{Item}
use Rattle.mx_blocks.specs.Items.{StandsAt}
use Rattle.mx_validate.specs.Padded.{insts_of, body_count}
use Rattle.mx_reorg.specs.Greedy.{Fills, MayEnd}
use Rattle.mx_reorg.specs.Making.{Grows}
use Rattle.mx_reorg.proofs.Fronts.{grows_low, grows_none, grows_push}
use Rattle.mx_reorg.proofs.Spent.{Cost, total, cost_none, cost_grows, short, few}
use Rattle.mx_reorg.proofs.proposer.front_of.Goals as goal

pub front-init : goal.front-init
front-init c =
    let size = ap length c.new-items.ensures in
    record {
      grows = grows_none c.args.block.now c.new-items.result.items c.new-items.ensures;
      cost = cost_none c.args.block.now c.new-items.result.items c.new-items.ensures;
      short = omega arith;
    }

fills : (c : goal.After-push) → Fills c.args.block.now c.front.items.items c.next_item-next.result
fills c = subst (λ (l : List Item). Fills c.args.block.now l c.next_item-next.result) c.as_slice-in-front.ensures.value c.next_item-next.ensures.fills

going : (c : goal.After-push) → ¬ MayEnd c.args.block.now.end c.args.block.now c.front.items.items
going c m = false≢true
    (sym c.front-test.true ∙ c.may_end.ensures.1 (subst (λ (l : List Item). MayEnd c.args.block.now.end c.args.block.now l) (sym c.as_slice.ensures.value) m))

cost : (c : goal.After-push) → Cost c.args.block.now (c.front.items.items ++ c.next_item-next.result ∷ [])
cost c = cost_grows c.args.block.now c.front.items.items c.next_item-next.result (fills c) (going c) c.front.invariant.cost

pub front-preserved : goal.front-preserved
front-preserved c =
    let block = c.args.block.now in
    let more = cost c in
    let low = short block _ more in
    let most = few block c.requires.few in
    let size = ap length c.push.ensures.items in
    record {
      grows = subst (λ (l : List Item). Grows block l) (sym c.push.ensures.items)
          (grows_push block c.front.items.items c.next_item-next.result c.front.invariant.grows (going c) (fills c));
      cost = subst (λ (l : List Item). Cost block l) (sym c.push.ensures.items) more;
      short = omega arith;
    }

pub front-smaller : goal.front-smaller
front-smaller c =
    let block = c.args.block.now in
    let low : length (c.front.items.items ++ c.next_item-next.result ∷ []) ≤ total (insts_of block) (body_count block) = short block _ (cost c) in
    let size : length c.push.new.self.items ≡ length (c.front.items.items ++ c.next_item-next.result ∷ []) = ap length c.push.ensures.items in
    let more : length (c.front.items.items ++ c.next_item-next.result ∷ []) ≡ length c.front.items.items + 1 =
    length-append c.front.items.items (c.next_item-next.result ∷ []) in
    omega arith

pub next_item-next-requires-clause-known : goal.next_item-next-requires-clause-known
next_item-next-requires-clause-known c = λ p k s.
    grows_low c.args.block.now c.front.items.items c.front.invariant.grows p k (subst (λ (l : List Item). StandsAt l p k) c.as_slice-in-front.ensures.value s)
