-- Behind each list of items there is one that fills the next place.
use Rattle.std.proofs.Common.{◌≡◌, ℕ, zero, suc, ◌+◌, ◌-◌, ◌≤◌, Bool, false, List, length, Option, Some, None, refl, sym, ap, ◌∙◌, subst, ⊎_elim, inl, inr, arith}
use Rattle.std.specs.Prelude.{slice_get}
use Rattle.std.proofs.lemmas.Bool.{true≢false, cases_lt, cases_Bool}
use Rattle.std.proofs.lemmas.Option.{slice_get_within, none-some}
use Rattle.mx_depend.specs.Independence.{feeds}
use Rattle.mx_depend.specs.Graphs.{inst_at, IsEdge}
use Rattle.mx_depend.proofs.Decided.{Decided, implied, refuted, all_below, edge_decided}
use Rattle.mx_depend.proofs.Heights.{height_exists}
use Rattle.mx_blocks.specs.declared.block.Block.{Block}
use Rattle.mx_blocks.specs.declared.block.Item.{Item}
use Rattle.mx_blocks.specs.declared.block.Item.TheVariants.{Op, Nop}
use Rattle.mx_blocks.specs.Items.{StandsAt, ops, times}
use Rattle.mx_validate.specs.Padded.{insts_of, falls, body_count}
use Rattle.mx_validate.proofs.Listed.{stands_counts, counted_stands}
use Rattle.mx_reorg.specs.Greedy.{Stands, IsReady, IsCandidate, Fills}
use Rattle.mx_reorg.specs.Making.{IsBetter}
use Rattle.mx_reorg.proofs.Choices.{HasHeight, BestBelow, none_below, no_candidate, one_candidate, better_later, better_earlier, best_fills, op_same, op_not_nop}
use Rattle.mx_reorg.proofs.Spent.{body_low}

pub height_of : (block : Block) (x : ℕ) → HasHeight block x
height_of block x = let h = height_exists (insts_of block) block.input x in record { height = h.0; is = h.1 }

pub stands_decided : (items : List Item) (k : ℕ) → Decided (Stands items k)
stands_decided items k = ⊎_elim
    (λ some. let s = counted_stands k items some in inl (record { at = s.at; stands = s.stands }))
    (λ none. inr (λ s. (let some = stands_counts k items s.at s.stands in absurd (omega arith))))
    (cases_lt 0 (times k (ops items)))

-- what a test says of the last item, where that is an instruction
pub last_decided : (items : List Item) (test : ℕ → Bool) → Decided ((p k : ℕ) → StandsAt items p k → suc p ≡ length items → test k ≡ false)
last_decided items test = at_last (slice_get items (length items - 1)) refl
  where
    place_of : (p k : ℕ) → StandsAt items p k → suc p ≡ length items → StandsAt items (length items - 1) k
    place_of p k s e = let same : p ≡ length items - 1 = omega arith in subst (λ (n : ℕ). StandsAt items n k) same s

    at_last : (o : Option Item) → slice_get items (length items - 1) ≡ o → Decided ((p k : ℕ) → StandsAt items p k → suc p ≡ length items → test k ≡ false)
    at_last None e = inl (λ p k s l. absurd (none-some (Op k) (sym e ∙ place_of p k s l)))
    at_last (Some Nop) e = inl (λ p k s l. absurd (let f : Some Nop ≡ Some (Op k) = sym e ∙ place_of p k s l in cc))
    at_last (Some (Op j)) e = ⊎_elim
        (λ yes. inr (λ h.
        (let within = slice_get_within items (length items - 1) (Op j) e in
        true≢false (sym yes ∙ h (length items - 1) j e (omega arith)))))
        (λ quiet. inl (λ p k s l.
        (let f : Some (Op j) ≡ Some (Op k) = sym e ∙ place_of p k s l in
        let same : j ≡ k = cc in
        ap test (sym same) ∙ quiet)))
        (cases_Bool (test j))

pub ready_decided : (block : Block) (before : List Item) (x : ℕ) → Decided (IsReady block before x)
ready_decided block before x = ⊎_elim
    (λ low. ⊎_elim
    (λ apart. inl (record { follows = λ y d. low y d.later d; apart = apart }))
    (λ none. inr (λ r. none r.apart))
    (last_decided before (λ k. feeds (inst_at (insts_of block) k) (inst_at (insts_of block) x))))
    (λ none. inr (λ r. none (λ y l d. r.follows y d)))
    (all_below (λ y. IsEdge (insts_of block) block.input y x → Stands before y) x
    (λ y. implied _ _ (edge_decided (insts_of block) block.input y x) (stands_decided before y)))

candidate_decided : (block : Block) (before : List Item) (x : ℕ) → Decided (IsCandidate block before x)
candidate_decided block before x = ⊎_elim
    (λ body. ⊎_elim
    (λ fresh. ⊎_elim
    (λ ready. inl (record { body = body; fresh = fresh; ready = ready }))
    (λ none. inr (λ c. none c.ready))
    (ready_decided block before x))
    (λ none. inr (λ c. none c.fresh))
    (refuted _ (stands_decided before x)))
    (λ past. inr (λ c. (let body = c.body in absurd (omega arith))))
    (cases_lt x (body_count block))

-- the one of the best so far and a later candidate that stands first
record Chosen (block : Block) (x : ℕ) (best : Item) : Type 0 where
  next : Item
  none : best ≡ Nop → next ≡ Op x
  one : (b : ℕ) → best ≡ Op b → b ≤ x → IsBetter block b x next

chosen : (block : Block) (x : ℕ) (best : Item) → Chosen block x best
chosen block x Nop = record { next = Op x; none = λ e. refl; one = λ b e l. absurd (op_not_nop b Nop e refl) }
chosen block x (Op a) =
    let h = height_of block a in
    let g = height_of block x in
    ⊎_elim
    (λ less. record {
      next = Op x;
      none = λ e. absurd (op_not_nop a (Op a) refl e);
      one = λ b e l. subst (λ (n : ℕ). IsBetter block n x (Op x)) (op_same a b (Op a) refl e) (better_later block a x h.height g.height h.is g.is less);
    })
    (λ more. record {
      next = Op a;
      none = λ e. absurd (op_not_nop a (Op a) refl e);
      one = λ b e l.
          (let same = op_same a b (Op a) refl e in
          subst (λ (n : ℕ). IsBetter block n x (Op a)) same (better_earlier block a x h.height g.height h.is g.is more (omega arith)));
    })
    (cases_lt h.height g.height)

record Best (block : Block) (before : List Item) (x : ℕ) : Type 0 where
  item : Item
  is : BestBelow block before x item

best_below : (block : Block) (before : List Item) (x : ℕ) → x ≤ length (insts_of block) → Best block before x
best_below block before zero l = record { item = Nop; is = none_below block before }
best_below block before (suc x) l =
    let best = best_below block before x (omega arith) in
    let next : x + 1 ≡ suc x = omega arith in
    subst (Best block before) next
    (⊎_elim
    (λ yes.
    let c = chosen block x best.item in
    record { item = c.next; is = one_candidate block before x best.item c.next (λ b m. height_of block b) (omega arith) best.is yes c.none c.one })
    (λ none. record { item = best.item; is = no_candidate block before x best.item best.is none })
    (candidate_decided block before x))

-- an item that fills the next place
pub record Filled (block : Block) (before : List Item) : Type 0 where
  pub item : Item
  pub fills : Fills block before item

pub filled : (block : Block) (before : List Item) → Filled block before
filled block before =
    let best = best_below block before (body_count block) (body_low (falls block.end) (length (insts_of block))) in
    record { item = best.item; fills = best_fills block before best.item best.is }
