-- A front, and the greedy plan that it begins.
use Rattle.std.proofs.Common.{◌≡◌, ℕ, zero, suc, ◌+◌, ◌-◌, ◌<◌, ◌≤◌, false, List, [], ◌∷◌, ◌++◌, length, length-append, append_assoc, take, Some, slice_index_or, refl, sym, ap, ◌∙◌, subst, ⊎_elim, arith}
use Rattle.std.specs.Prelude.{slice_get}
use Rattle.std.proofs.lemmas.Bool.{cases_lt}
use Rattle.std.proofs.lemmas.Option.{slice_get_within, get_or_from_slice_get}
use Rattle.mx_blocks.specs.declared.block.Block.{Block}
use Rattle.mx_blocks.specs.declared.block.Plan.{Plan}
use Rattle.mx_blocks.specs.declared.block.End.{End}
use Rattle.mx_blocks.specs.declared.block.End.TheVariants.{Falls, Halts}
use Rattle.mx_blocks.specs.declared.block.Item.{Item}
use Rattle.mx_blocks.specs.declared.block.Item.TheVariants.{Op, Nop}
use Rattle.mx_blocks.specs.Items.{StandsAt}
use Rattle.mx_validate.specs.Padded.{insts_of, items_of, falls}
use Rattle.mx_validate.specs.Validity.{end_count}
use Rattle.mx_reorg.specs.Greedy.{Fills, AllStand, RestFits, MayEnd, IsGreedy, terminator, loads}
use Rattle.mx_reorg.specs.Making.{HasSlots, Grows}
use Rattle.mx_reorg.proofs.Choices.{HasHeight, fills_low, rest_same}

take_behind : (front rest : List Item) (p q : ℕ) → p ≡ length front + q → take p (front ++ rest) ≡ front ++ take q rest
take_behind [] rest p q e = let s : p ≡ q = omega arith in ap (λ n. take n rest) s
take_behind (x ∷ front) rest zero q e = absurd (omega arith)
take_behind (x ∷ front) rest (suc p) q e = ap (λ l. x ∷ l) (take_behind front rest p q (omega arith))

get_behind : (front rest : List Item) (p q : ℕ) → p ≡ length front + q → slice_get (front ++ rest) p ≡ slice_get rest q
get_behind [] rest p q e = let s : p ≡ q = omega arith in ap (slice_get rest) s
get_behind (x ∷ front) rest zero q e = absurd (omega arith)
get_behind (x ∷ front) rest (suc p) q e = get_behind front rest p q (omega arith)

item_behind : (front rest : List Item) (p q : ℕ) → p ≡ length front + q → slice_index_or (front ++ rest) p Nop ≡ slice_index_or rest q Nop
item_behind [] rest p q e = let s : p ≡ q = omega arith in ap (λ n. slice_index_or rest n Nop) s
item_behind (x ∷ front) rest zero q e = absurd (omega arith)
item_behind (x ∷ front) rest (suc p) q e = item_behind front rest p q (omega arith)

take_before : (front rest : List Item) (p : ℕ) → p ≤ length front → take p (front ++ rest) ≡ take p front
take_before front rest zero l = refl
take_before [] rest (suc p) l = absurd (omega arith)
take_before (x ∷ front) rest (suc p) l = ap (λ xs. x ∷ xs) (take_before front rest p (omega arith))

item_before : (front rest : List Item) (p : ℕ) → p < length front → slice_index_or (front ++ rest) p Nop ≡ slice_index_or front p Nop
item_before [] rest p l = absurd (omega arith)
item_before (x ∷ front) rest zero l = refl
item_before (x ∷ front) rest (suc p) l = item_before front rest p (omega arith)

take_all : (xs : List Item) → take (length xs) xs ≡ xs
take_all [] = refl
take_all (x ∷ xs) = ap (λ l. x ∷ l) (take_all xs)

fills_moved : (block : Block) (xs ys : List Item) (a b : Item) → xs ≡ ys → a ≡ b → Fills block xs a → Fills block ys b
fills_moved block xs ys a b e f h = subst (λ (x : Item). Fills block ys x) f (subst (λ (l : List Item). Fills block l a) e h)

pub grows_low : (block : Block) (items : List Item) → Grows block items → (p k : ℕ) → StandsAt items p k → k < length (insts_of block)
grows_low block items g p k s =
    fills_low block (take p items) (slice_index_or items p Nop) (g.filled p (slice_get_within items p (Op k) s)) k (get_or_from_slice_get items p (Op k) Nop s)

pub grows_none : (block : Block) (items : List Item) → items ≡ [] → Grows block items
grows_none block items e = record {
  filled = λ p l. absurd (let n = ap length e in omega arith);
  going = λ p l. absurd (let n = ap length e in omega arith);
}

pub grows_push : (block : Block) (items : List Item) (item : Item) → Grows block items → (¬ MayEnd block.end block items) → Fills block items item
    → Grows block (items ++ item ∷ [])
grows_push block items item g going fills =
    let count = length-append items (item ∷ []) in
    record {
      filled = λ p l. ⊎_elim
          (λ below. fills_moved block _ _ _ _ (sym (take_before items (item ∷ []) p (omega arith))) (sym (item_before items (item ∷ []) p below))
          (g.filled p below))
          (λ above.
          let at : p ≡ length items + 0 = omega arith in
          let taken : items ≡ take p (items ++ item ∷ []) =
          (let s : length items ≡ p = omega arith in
          sym (take_all items) ∙ ap (λ n. take n items) s ∙ sym (take_before items (item ∷ []) p (omega arith))) in
          fills_moved block _ _ _ _ taken (sym (item_behind items (item ∷ []) p 0 at)) fills)
          (cases_lt p (length items));
      going = λ p l m. ⊎_elim
          (λ below. g.going p below (subst (λ (l : List Item). MayEnd block.end block l) (take_before items (item ∷ []) p (omega arith)) m))
          (λ above.
          let taken : take p (items ++ item ∷ []) ≡ items =
          (let s : p ≡ length items = omega arith in take_before items (item ∷ []) p (omega arith) ∙ ap (λ n. take n items) s ∙ take_all items) in
          going (subst (λ (l : List Item). MayEnd block.end block l) taken m))
          (cases_lt p (length items));
    }

pub rest_of_slots : (block : Block) (before items : List Item) (second : Item) → HasSlots block before items second → AllStand block items
    → loads block second ≡ false → RestFits block before
rest_of_slots block before items second h all none = record {
  first = h.first;
  second = second;
  first_fills = h.first_fills;
  second_fills = h.second_fills;
  all = subst (λ (l : List Item). AllStand block l) h.is all;
  no_load = none;
}

pub slots_of_rest : (block : Block) (before items : List Item) (second : Item) → ((x : ℕ) → x < length (insts_of block) → HasHeight block x)
    → HasSlots block before items second → RestFits block before → AllStand block items × (loads block second ≡ false)
slots_of_rest block before items second known h r =
    let s = rest_same block before h.first second known h.first_fills h.second_fills r in
    (subst (λ (l : List Item). AllStand block l) (sym h.is) s.0, s.1)

-- a front and what follows it
pub greedy_from : (block : Block) (plan : Plan) (front rest : List Item) → Grows block front → MayEnd block.end block front → items_of plan ≡ front ++ rest
    → plan.place ≡ length front → length rest ≡ end_count block.end → (falls block.end ≡ false → slice_get rest 0 ≡ Some (Op (terminator block)))
    → ((q : ℕ) → 1 ≤ q → q < length rest → Fills block (front ++ take q rest) (slice_index_or rest q Nop)) → IsGreedy block plan
greedy_from block plan front rest grows ends e place count t slots =
    let size = ap length e ∙ length-append front rest in
    record {
      ends = subst (λ (l : List Item). MayEnd block.end block l)
          (sym (taken (length front) place ∙ take_before front rest (length front) (omega arith) ∙ take_all front)) ends;
      least = λ p l m. grows.going p (omega arith)
          (subst (λ (l : List Item). MayEnd block.end block l) (taken_at p ∙ take_before front rest p (omega arith)) m);
      filled = λ p l apart. ⊎_elim
          (λ below. fills_moved block _ _ _ _ (sym (taken_at p ∙ take_before front rest p (omega arith))) (sym (item_at p ∙ item_before front rest p below))
          (grows.filled p below))
          (λ above.
          let q : ℕ = p - length front in
          let at : p ≡ length front + q = omega arith in
          let some : 1 ≤ q = omega arith in
          fills_moved block _ _ _ _ (sym (taken_at p ∙ take_behind front rest p q at)) (sym (item_at p ∙ item_behind front rest p q at))
          (slots q some (omega arith)))
          (cases_lt p (length front));
      terminator = λ g. (let at : plan.place ≡ length front + 0 = omega arith in
          ap (λ l. slice_get l plan.place) e ∙ get_behind front rest plan.place 0 at ∙ t g);
      tail = omega arith;
    }
  where
    taken_at : (p : ℕ) → take p (items_of plan) ≡ take p (front ++ rest)
    taken_at p = ap (take p) e

    taken : (p : ℕ) → plan.place ≡ p → take plan.place (items_of plan) ≡ take p (front ++ rest)
    taken p s = ap (take plan.place) e ∙ ap (λ n. take n (front ++ rest)) s

    item_at : (p : ℕ) → slice_index_or (items_of plan) p Nop ≡ slice_index_or (front ++ rest) p Nop
    item_at p = ap (λ l. slice_index_or l p Nop) e

-- the three items from the terminator on
pub slots_filled : (block : Block) (front : List Item) (first second : Item) → Fills block (front ++ Op (terminator block) ∷ []) first
    → Fills block (front ++ Op (terminator block) ∷ [] ++ first ∷ []) second → (q : ℕ) → 1 ≤ q → q < 3
    → Fills block (front ++ take q (Op (terminator block) ∷ first ∷ second ∷ [])) (slice_index_or (Op (terminator block) ∷ first ∷ second ∷ []) q Nop)
slots_filled block front first second f g zero l m = absurd (omega arith)
slots_filled block front first second f g (suc zero) l m = f
slots_filled block front first second f g (suc (suc zero)) l m =
    subst (λ (l : List Item). Fills block l second) (append_assoc front (Op (terminator block) ∷ []) (first ∷ [])) g
slots_filled block front first second f g (suc (suc (suc q))) l m = absurd (omega arith)

pub three_items : (front : List Item) (a b c : Item) → front ++ a ∷ [] ++ b ∷ [] ++ c ∷ [] ≡ front ++ a ∷ b ∷ c ∷ []
three_items front a b c = append_assoc (front ++ a ∷ []) (b ∷ []) (c ∷ []) ∙ append_assoc front (a ∷ []) (b ∷ c ∷ [])

-- three items stand from a transfer on
pub three_behind : (end : End) → (end ≡ Falls → ⊥) → (end ≡ Halts → ⊥) → end_count end ≡ 3
three_behind Falls f h = absurd (f refl)
three_behind Halts f h = absurd (h refl)
three_behind _ f h = refl
