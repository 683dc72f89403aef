-- Every valid plan is one that the search visits.
use Rattle.std.proofs.Common.{◌≡◌, ℕ, zero, suc, ◌+◌, ◌-◌, ◌<◌, ◌≤◌, true, false, not, eqb, List, [], ◌∷◌, length, drop, Some, refl, sym, ap, ◌∙◌, subst, ⊎_elim, arith, length-drop}
use Rattle.std.specs.Prelude.{slice_get, slice_index_or, ◌&&◌}
use Rattle.std.proofs.lemmas.Bool.{cases_eq, cases_lt, cases_Bool, false≢true}
use Rattle.std.proofs.lemmas.Bool.Decides.{nat_tests}
use Rattle.std.proofs.lemmas.Option.{slice_get-get_or, slice_get_within, none-some, same_Some}
use Rattle.mx_blocks.specs.declared.block.Block.{Block}
use Rattle.mx_blocks.specs.declared.block.Plan.{Plan}
use Rattle.mx_blocks.specs.declared.block.End.{End}
use Rattle.mx_blocks.specs.declared.block.End.TheVariants.{Falls, Halts, Branches, Calls, Jumps}
use Rattle.mx_blocks.specs.declared.block.Item.{Item}
use Rattle.mx_blocks.specs.declared.block.Item.TheVariants.{Op, Nop}
use Rattle.mx_blocks.specs.Items.{StandsAt, ops, times}
use Rattle.mx_validate.specs.Padded.{insts_of, items_of, falls}
use Rattle.mx_validate.specs.Validity.{EachOnce, Valid, end_count}
use Rattle.mx_validate.proofs.Listed.{stands_counts, counted_stands, stands_within}
use Rattle.law_order.proofs.Reorder.{once_length}
use Rattle.mx_reorg.specs.Greedy.{Stands}
use Rattle.mx_best.specs.Visits.{KeepsDelay, IsFollowed, MayPrecede, Precedes, is_terminator, MayStand, no_ops, ValidIsVisited}

-- what stands in a rest of a list
pub get_drop : (n : ℕ) (items : List Item) (i m : ℕ) → n + i ≡ m → slice_get (drop n items) i ≡ slice_get items m
get_drop zero items i m e = let same : i ≡ m = omega arith in ap (slice_get items) same
get_drop (suc n) [] i m e = refl
get_drop (suc n) (item ∷ items) i zero e = absurd (omega arith)
get_drop (suc n) (item ∷ items) i (suc m) e = get_drop n items i m (omega arith)

-- what stands at a place counts once more than behind it
counts_before : (k : ℕ) (items : List Item) (p : ℕ) → StandsAt items p k → suc (times k (ops (drop (suc p) items))) ≤ times k (ops items)
counts_before k [] p s = absurd (none-some (Op k) s)
counts_before k (Op j ∷ items) zero s = let same : j ≡ k = cc in grind (arith, nat_tests)
counts_before k (Nop ∷ items) zero s = absurd (cc)
counts_before k (Op j ∷ items) (suc p) s = let rest = counts_before k items p s in grind (arith, nat_tests)
counts_before k (Nop ∷ items) (suc p) s = counts_before k items p s

-- no number stands at two places
once_before : (n : ℕ) (items : List Item) → EachOnce n items → (k p : ℕ) → StandsAt items p k → ¬ Stands (drop (suc p) items) k
once_before n items once k p s t =
    let one = once k in
    let more = counts_before k items p s in
    let behind = stands_counts k (drop (suc p) items) t.at t.stands in
    grind (arith, nat_tests)

pub same_op : (k j : ℕ) → Some (Op k) ≡ Some (Op j) → k ≡ j
same_op k j e = cc

-- a number that stands further back stands in the rest
in_rest : (items : List Item) (p q k : ℕ) → p < q → StandsAt items q k → Stands (drop (suc p) items) k
in_rest items p q k l s = record {
  at = q - suc p;
  stands = get_drop (suc p) items (q - suc p) q (omega arith) ∙ s;
}

same_place : (n : ℕ) (items : List Item) → EachOnce n items → (k p q : ℕ) → StandsAt items p k → StandsAt items q k → p ≡ q
same_place n items once k p q s t = ⊎_elim
    (λ l. absurd (once_before n items once k p s (in_rest items p q k l t)))
    (λ g. ⊎_elim (λ l. absurd (once_before n items once k q t (in_rest items q p k l s))) (λ h. omega arith) (cases_lt q p))
    (cases_lt p q)

no_end : (end : End) → falls end ≡ true → end_count end ≡ 0
no_end Falls f = refl
no_end Halts f = absurd (false≢true f)
no_end (Branches target) f = absurd (false≢true f)
no_end (Calls target) f = absurd (false≢true f)
no_end Jumps f = absurd (false≢true f)

pub counted : (items : List Item) → no_ops items + length (ops items) ≡ length items
counted [] = refl
counted (Op k ∷ items) = let rest = counted items in omega arith
counted (Nop ∷ items) = let rest = counted items in omega arith

module _ (block : Block) (plan : Plan) (v : Valid block plan) where
  abbrev items : List Item
  items = items_of plan

  abbrev n : ℕ
  n = length (insts_of block)

  followed : (p k : ℕ) → StandsAt items p k → IsFollowed block (drop (suc p) items) k
  followed p k s y edge =
      let there = counted_stands y items (let one = v.once y in let low = edge.within in grind (arith, nat_tests)) in
      ⊎_elim
      (λ l. absurd (edge.depends (v.order there.at p y k there.stands s l edge.later)))
      (λ g. ⊎_elim
      (λ l. in_rest items p there.at y l there.stands)
      (λ h. let same : there.at ≡ p = omega arith in let here = subst (λ q. StandsAt items q y) same there.stands in let both : k ≡ y =
      same_op k y (sym s ∙ here) in let less = edge.later in absurd (omega arith))
      (cases_lt p there.at))
      (cases_lt there.at p)

  delay : (p k : ℕ) → StandsAt items p k → KeepsDelay block (drop (suc p) items) k
  delay p k s = record {
    apart = λ j t. v.apart p k j s (sym (get_drop (suc p) items 0 (suc p) (omega arith)) ∙ t);
    last = λ none. v.last p k s
        (let size = length-drop (suc p) items in let zero_size = ap length none in let within = stands_within items p k s in omega arith);
  }

  precedes : (p k : ℕ) → StandsAt items p k → MayPrecede block (drop (suc p) items) k
  precedes p k s = record { fresh = once_before n items v.once k p s; followed = followed p k s; delay = delay p k s }

  fall_other : (item : Item) → falls block.end ≡ true → is_terminator block item ≡ false
  fall_other (Op k) f = ap (λ b. not b && eqb k (n - 1)) f
  fall_other Nop f = refl

  at_other : (p : ℕ) (item : Item) → ¬ (p ≡ plan.place) → is_terminator block item ≡ false → eqb p plan.place ≡ is_terminator block item
  at_other p item ne e = let test : eqb p plan.place ≡ false = grind (arith, nat_tests) in test ∙ sym e

  at_place : falls block.end ≡ false → (p : ℕ) (item : Item) → slice_get items p ≡ Some item → p ≡ plan.place → eqb p plan.place ≡ is_terminator block item
  at_place f p item s e =
      let test : eqb p plan.place ≡ true = grind (arith, nat_tests) in
      let same : item ≡ Op (n - 1) = same_Some item (Op (n - 1)) (sym s ∙ ap (slice_get items) e ∙ v.terminator f) in
      let self : eqb (n - 1) (n - 1) ≡ true = grind (arith, nat_tests) in
      test ∙ sym self ∙ sym (ap (λ b. not b && eqb (n - 1) (n - 1)) f) ∙ sym (ap (is_terminator block) same)

  not_last : falls block.end ≡ false → (p : ℕ) (item : Item) → slice_get items p ≡ Some item → ¬ (p ≡ plan.place) → is_terminator block item ≡ false
  not_last f p Nop s ne = refl
  not_last f p (Op k) s ne =
      let other : ¬ (k ≡ n - 1) = λ e. ne (same_place n items v.once (n - 1) p plan.place (s ∙ ap (λ j. Some (Op j)) e) (v.terminator f)) in
      let test : eqb k (n - 1) ≡ false = grind (arith, nat_tests) in
      ap (λ b. not b && eqb k (n - 1)) f ∙ test

  terminator_known : (p : ℕ) → p < length items → (item : Item) → slice_get items p ≡ Some item → eqb p plan.place ≡ is_terminator block item
  terminator_known p l item s = ⊎_elim
      (λ fall. let tail = v.tail in let none = no_end block.end fall in at_other p item (λ e. absurd (omega arith)) (fall_other item fall))
      (λ last. ⊎_elim (λ e. at_place last p item s e) (λ ne. at_other p item ne (not_last last p item s ne)) (cases_eq p plan.place))
      (cases_Bool (falls block.end))

  precedes_item : (p : ℕ) (item : Item) → slice_get items p ≡ Some item → Precedes block (drop (suc p) items) item
  precedes_item p (Op k) s = precedes p k s
  precedes_item p Nop s = tt

  pub may_stand : (p : ℕ) (item : Item) → slice_get items p ≡ Some item → MayStand block plan p item
  may_stand p item s = record {
    place = terminator_known p (slice_get_within items p item s) item s;
    precedes = precedes_item p item s;
  }

  pub few_no_ops : no_ops items + n ≤ length items
  few_no_ops =
      let all = counted items in
      let once = once_length n 0 (ops items) (λ k. v.once k ∙ grind (arith, nat_tests)) in
      omega arith

pub valid_is_visited : ValidIsVisited
valid_is_visited block plan v = record {
  may = λ p l. may_stand block plan v p (slice_index_or (items_of plan) p Nop) (slice_get-get_or (items_of plan) p Nop l);
  count = few_no_ops block plan v;
}
