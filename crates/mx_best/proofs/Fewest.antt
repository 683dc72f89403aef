-- Each block has a shortest valid plan: whether one of a given length is there is decided.
use Rattle.std.proofs.Common.{◌≡◌, ℕ, zero, suc, ◌+◌, ◌-◌, ◌<◌, ◌≤◌, ◌⊎◌, List, [], ◌∷◌, ◌++◌, length, refl, sym, ap, ◌∙◌, subst, ⊎_elim, inl, inr, arith, append_assoc}
use Rattle.std.proofs.lemmas.Bool.{cases_lt}
use Rattle.std.proofs.lemmas.Bool.Decides.{nat_tests}
use Rattle.mx_depend.proofs.Decided.{Decided}
use Rattle.mx_blocks.specs.declared.block.Block.{Block}
use Rattle.mx_blocks.specs.declared.block.Plan.{Plan}
use Rattle.mx_blocks.specs.declared.block.Item.{Item}
use Rattle.mx_blocks.specs.declared.block.Item.TheVariants.{Op, Nop}
use Rattle.mx_blocks.specs.Items.{ops, times}
use Rattle.mx_validate.specs.Padded.{insts_of, items_of}
use Rattle.mx_validate.specs.Validity.{EachOnce, Valid, end_count}
use Rattle.mx_validate.proofs.Listed.{ops_append, times_append}
use Rattle.mx_reorg.proofs.ExistsItems.{height_of}
use Rattle.mx_reorg.proofs.ExistsPlans.{greedy_exists}
use Rattle.mx_reorg.proofs.ValidPlans.{greedy_valid}
use Rattle.mx_best.specs.Shortest.{ShortestExists}
use Rattle.mx_best.proofs.ValidDecided.{valid_decided}

-- the least number of which something holds
pub record Least (P : ℕ → Type 0) : Type 0 where
  pub at : ℕ
  pub holds : P at
  pub least : (k : ℕ) → P k → at ≤ k

least_below : (P : ℕ → Type 0) → ((k : ℕ) → Decided (P k)) → (n : ℕ) → Least P ⊎ ((k : ℕ) → k < n → ¬ P k)
least_below P each zero = inr (λ k l. absurd (omega arith))
least_below P each (suc n) = ⊎_elim
    (λ found. inl found)
    (λ none. ⊎_elim
    (λ yes. inl (record { at = n; holds = yes; least = λ k h. ⊎_elim (λ l. absurd (none k l h)) (λ g. g) (cases_lt k n) }))
    (λ nor. inr (λ k l h. ⊎_elim (λ below. none k below h) (λ above. (let same : k ≡ n = omega arith in nor (subst P same h))) (cases_lt k n)))
    (each n))
    (least_below P each n)

abbrev plan_of : List Item → ℕ → Plan
plan_of items place = record { items = record { items = items }; place = place }

-- items behind the first ones with which the plan is valid
record Completed (block : Block) (place : ℕ) (front : List Item) (m : ℕ) : Type 0 where
  rest : List Item
  size : length rest ≡ m
  valid : Valid block (plan_of (front ++ rest) place)

-- a number by which the list goes on
record GoesOn (block : Block) (place : ℕ) (front : List Item) (m n : ℕ) : Type 0 where
  number : ℕ
  low : number < n
  after : Completed block place (front ++ Op number ∷ []) m

one_more : (block : Block) (place : ℕ) (front : List Item) (x : Item) (m : ℕ) → Completed block place (front ++ x ∷ []) m → Completed block place front (suc m)
one_more block place front x m h = record {
  rest = x ∷ h.rest;
  size = ap suc h.size;
  valid = subst (λ l. Valid block (plan_of l place)) (append_assoc front (x ∷ []) h.rest) h.valid;
}

one_less : (block : Block) (place : ℕ) (front : List Item) (x : Item) (rest : List Item) (m : ℕ) → length rest ≡ m
    → Valid block (plan_of (front ++ x ∷ rest) place) → Completed block place (front ++ x ∷ []) m
one_less block place front x rest m e v =
    record { rest = rest; size = e; valid = subst (λ l. Valid block (plan_of l place)) (sym (append_assoc front (x ∷ []) rest)) v }

op_low : (n : ℕ) (front rest : List Item) (j : ℕ) → EachOnce n (front ++ Op j ∷ rest) → j < n
op_low n front rest j once =
    let all = ap (times j) (ops_append front (Op j ∷ rest)) ∙ times_append j (ops front) (j ∷ ops rest) in
    let one = once j in
    grind (arith, nat_tests)

module _ (block : Block) (place : ℕ) where
  abbrev n : ℕ
  n = length (insts_of block)

  by_number : (front : List Item) (m : ℕ) → ((x : Item) → Decided (Completed block place (front ++ x ∷ []) m)) → (b : ℕ)
      → Decided (GoesOn block place front m b)
  by_number front m each zero = inr (λ g. (let low = g.low in absurd (omega arith)))
  by_number front m each (suc b) = ⊎_elim
      (λ g. (let low = g.low in inl (record { number = g.number; low = omega arith; after = g.after })))
      (λ none. ⊎_elim
      (λ yes. inl (record { number = b; low = omega arith; after = yes }))
      (λ nor. inr (λ g. (let low = g.low in ⊎_elim
      (λ below. none (record { number = g.number; low = below; after = g.after }))
      (λ above. (let same : g.number ≡ b = omega arith in nor (subst (λ j. Completed block place (front ++ Op j ∷ []) m) same g.after)))
      (cases_lt g.number b))))
      (each (Op b)))
      (by_number front m each b)

  completed_decided : (m : ℕ) (front : List Item) → Decided (Completed block place front m)
  completed_decided zero front = ⊎_elim
      (λ v. inl (record { rest = []; size = refl; valid = v }))
      (λ none. inr (λ h. none (empty h.rest h.size h.valid)))
      (valid_decided block (plan_of (front ++ []) place))
    where
      empty : (rest : List Item) → length rest ≡ 0 → Valid block (plan_of (front ++ rest) place) → Valid block (plan_of (front ++ []) place)
      empty [] e v = v
      empty (x ∷ rest) e v = absurd (omega arith)
  completed_decided (suc m) front = ⊎_elim
      (λ g. inl (one_more block place front (Op g.number) m g.after))
      (λ none. ⊎_elim
      (λ yes. inl (one_more block place front Nop m yes))
      (λ nor. inr (λ h. neither none nor h.rest h.size h.valid))
      (completed_decided m (front ++ Nop ∷ [])))
      (by_number front m (λ x. completed_decided m (front ++ x ∷ [])) n)
    where
      neither : ¬ GoesOn block place front m n → ¬ Completed block place (front ++ Nop ∷ []) m → (rest : List Item) → length rest ≡ suc m
          → Valid block (plan_of (front ++ rest) place) → ⊥
      neither none nor [] e v = absurd (omega arith)
      neither none nor (Op j ∷ rest) e v =
          none (record { number = j; low = op_low n front rest j v.once; after = one_less block place front (Op j) rest m (omega arith) v })
      neither none nor (Nop ∷ rest) e v = nor (one_less block place front Nop rest m (omega arith) v)

-- a valid plan of this many items
pub record HasPlan (block : Block) (count : ℕ) : Type 0 where
  pub plan : Plan
  pub valid : Valid block plan
  pub size : length (items_of plan) ≡ count

plan_decided : (block : Block) (count : ℕ) → Decided (HasPlan block count)
plan_decided block count = ⊎_elim
    (λ h. inl (record { plan = plan_of h.rest (count - end_count block.end); valid = h.valid; size = h.size }))
    (λ none. inr (λ h. none (record { rest = items_of h.plan; size = h.size; valid = placed h.plan h.valid h.size })))
    (completed_decided block (count - end_count block.end) count [])
  where
    placed : (plan : Plan) → Valid block plan → length (items_of plan) ≡ count → Valid block (plan_of (items_of plan) (count - end_count block.end))
    placed plan v e =
        let tail = v.tail in
        let same : plan.place ≡ count - end_count block.end = omega arith in
        subst (λ p. Valid block (plan_of (items_of plan) p)) same
        (record { once = v.once; terminator = v.terminator; tail = v.tail; order = v.order; apart = v.apart; last = v.last; room = v.room })

-- the least number of items of a valid plan
pub shortest_of : (block : Block) → Least (HasPlan block)
shortest_of block =
    let g = greedy_exists block in
    let v = greedy_valid block g.0 g.1 (λ x l. height_of block x) in
    ⊎_elim
    (λ found. found)
    (λ none. absurd (none (length (items_of g.0)) (omega arith) (record { plan = g.0; valid = v; size = refl })))
    (least_below (HasPlan block) (plan_decided block) (suc (length (items_of g.0))))

pub shortest_exists : ShortestExists
shortest_exists block =
    let s = shortest_of block in (
      s.holds.plan,
      record {
        valid = s.holds.valid;
        fewest = λ other v. (let l = s.least (length (items_of other)) (record { plan = other; valid = v; size = refl }) in let e = s.holds.size in
            omega arith);
      },
    )
