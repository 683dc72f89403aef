-- At most one plan is greedy for a block.
use Rattle.std.proofs.Common.{◌≡◌, ℕ, zero, suc, ◌+◌, ◌<◌, ◌≤◌, true, List, [], ◌∷◌, ◌++◌, length, take, slice_index_or, refl, sym, ap, ◌∙◌, subst, ⊎_elim, arith}
use Rattle.std.proofs.lemmas.Bool.{false≢true, cases_lt, cases_eq, cases_Bool}
use Rattle.std.proofs.lemmas.List.{take_more}
use Rattle.std.proofs.lemmas.Option.{get_or_from_slice_get}
use Rattle.mx_blocks.specs.declared.block.Block.{Block}
use Rattle.mx_blocks.specs.declared.block.Plan.{Plan}
use Rattle.mx_blocks.specs.declared.block.End.{End}
use Rattle.mx_blocks.specs.declared.block.End.TheVariants.{Falls}
use Rattle.mx_blocks.specs.declared.block.Item.{Item}
use Rattle.mx_blocks.specs.declared.block.Item.TheVariants.{Op, Nop}
use Rattle.mx_validate.specs.Padded.{insts_of, items_of, falls}
use Rattle.mx_validate.specs.Validity.{end_count}
use Rattle.mx_reorg.specs.Greedy.{Fills, MayEnd, IsGreedy, terminator}
use Rattle.mx_reorg.proofs.Choices.{HasHeight, fills_unique}

shorter : (xs ys : List Item) (n m : ℕ) → m ≤ n → take n xs ≡ take n ys → take m xs ≡ take m ys
shorter xs ys n zero l e = refl
shorter [] [] n (suc m) l e = refl
shorter [] (y ∷ ys) zero (suc m) l e = absurd (omega arith)
shorter [] (y ∷ ys) (suc n) (suc m) l e = absurd (let f : [] ≡ y ∷ take n ys = e in cc)
shorter (x ∷ xs) [] zero (suc m) l e = absurd (omega arith)
shorter (x ∷ xs) [] (suc n) (suc m) l e = absurd (let f : x ∷ take n xs ≡ [] = e in cc)
shorter (x ∷ xs) (y ∷ ys) zero (suc m) l e = absurd (omega arith)
shorter (x ∷ xs) (y ∷ ys) (suc n) (suc m) l e =
    let f : x ∷ take n xs ≡ y ∷ take n ys = e in
    let head : x ≡ y = cc in
    let tail : take n xs ≡ take n ys = cc in
    let rest : take m xs ≡ take m ys = shorter xs ys n m (omega arith) tail in
    λ i. head i ∷ rest i

take_whole : (xs : List Item) → take (length xs) xs ≡ xs
take_whole [] = refl
take_whole (x ∷ xs) = ap (λ l. x ∷ l) (take_whole xs)

module _ (block : Block) (known : (x : ℕ) → x < length (insts_of block) → HasHeight block x) where
  -- where two greedy plans agree on their first n items, the second does not end before the first
  ends_not_before : (p q : Plan) (n : ℕ) → IsGreedy block p → IsGreedy block q → take n (items_of p) ≡ take n (items_of q) → q.place < p.place → q.place ≤ n → ⊥
  ends_not_before p q n g h e less low =
      g.least q.place less (subst (λ (l : List Item). MayEnd block.end block l) (sym (shorter (items_of p) (items_of q) n q.place low e)) h.ends)

  -- so they agree on one more item
  item_same : (p q : Plan) (n : ℕ) → IsGreedy block p → IsGreedy block q → take n (items_of p) ≡ take n (items_of q) → n < length (items_of p)
      → n < length (items_of q) → slice_index_or (items_of p) n Nop ≡ slice_index_or (items_of q) n Nop
  item_same p q n g h e l m = ⊎_elim
      (λ at. ⊎_elim
      (λ also. ended at also)
      (λ apart. absurd (⊎_elim (λ less. ends_not_before p q n g h e (omega arith) (omega arith))
      (λ more. ends_not_before q p n h g (sym e) (omega arith) (omega arith)) (cases_lt q.place n)))
      (cases_eq n q.place))
      (λ apart. ⊎_elim
      (λ at. absurd (⊎_elim (λ less. ends_not_before q p n h g (sym e) (omega arith) (omega arith))
      (λ more. ends_not_before p q n g h e (omega arith) (omega arith)) (cases_lt p.place n)))
      (λ also. fills_unique block (take n (items_of q)) _ _ known
      (subst (λ (l : List Item). Fills block l (slice_index_or (items_of p) n Nop)) e (g.filled n l apart)) (h.filled n m also))
      (cases_eq n q.place))
      (cases_eq n p.place)
    where
      ended : n ≡ p.place → n ≡ q.place → slice_index_or (items_of p) n Nop ≡ slice_index_or (items_of q) n Nop
      ended at also = ⊎_elim
          (λ t. (let none : end_count block.end ≡ 0 = falls_none block.end t in let tail = g.tail in absurd (omega arith)))
          (λ f.
          ap (λ k. slice_index_or (items_of p) k Nop) at ∙ get_or_from_slice_get (items_of p) p.place (Op (terminator block)) Nop (g.terminator f)
          ∙ sym (ap (λ k. slice_index_or (items_of q) k Nop) also ∙ get_or_from_slice_get (items_of q) q.place (Op (terminator block)) Nop (h.terminator f)))
          (cases_Bool (falls block.end))
        where
          falls_none : (end : End) → falls end ≡ true → end_count end ≡ 0
          falls_none Falls t = refl
          falls_none _ t = absurd (false≢true t)

  same_front : (p q : Plan) (n : ℕ) → IsGreedy block p → IsGreedy block q → n ≤ length (items_of p) → n ≤ length (items_of q)
      → take n (items_of p) ≡ take n (items_of q)
  same_front p q zero g h l m = refl
  same_front p q (suc n) g h l m =
      let e = same_front p q n g h (omega arith) (omega arith) in
      let item = item_same p q n g h e (omega arith) (omega arith) in
      let next : suc n ≡ n + 1 = omega arith in
      ap (λ k. take k (items_of p)) next
      ∙ take_more (items_of p) n Nop (omega arith)
      ∙ ap (λ xs. xs ++ slice_index_or (items_of p) n Nop ∷ []) e
      ∙ ap (λ x. take n (items_of q) ++ x ∷ []) item
      ∙ sym (take_more (items_of q) n Nop (omega arith))
      ∙ sym (ap (λ k. take k (items_of q)) next)

  same_place : (p q : Plan) → IsGreedy block p → IsGreedy block q → p.place ≡ q.place
  same_place p q g h = ⊎_elim
      (λ less. (let e = same_front q p p.place h g (let t = h.tail in omega arith) (let t = g.tail in omega arith) in
      absurd (ends_not_before q p p.place h g e less (omega arith))))
      (λ more. ⊎_elim
      (λ less. (let e = same_front p q q.place g h (let t = g.tail in omega arith) (let t = h.tail in omega arith) in
      absurd (ends_not_before p q q.place g h e less (omega arith))))
      (λ same. omega arith)
      (cases_lt q.place p.place))
      (cases_lt p.place q.place)

  pub greedy_unique : (p q : Plan) → IsGreedy block p → IsGreedy block q → p ≡ q
  greedy_unique p q g h =
      let place = same_place p q g h in
      let a = g.tail in
      let b = h.tail in
      let size : length (items_of p) ≡ length (items_of q) = omega arith in
      let front = same_front p q (length (items_of p)) g h (omega arith) (omega arith) in
      let items : items_of p ≡ items_of q = sym (take_whole (items_of p)) ∙ front ∙ ap (λ n. take n (items_of q)) size ∙ take_whole (items_of q) in
      λ i. record { items = record { items = items i }; place = place i }
