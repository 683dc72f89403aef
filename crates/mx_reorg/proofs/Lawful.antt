-- A greedy plan is valid.
use Rattle.std.proofs.Common.{◌≡◌, ℕ, zero, suc, ◌+◌, ◌-◌, ◌<◌, ◌≤◌, Bool, true, false, cond, ◌⊎◌, List, [], ◌∷◌, length, length-append, take, Option, Some, None, slice_index_or, refl, sym, ap, ◌∙◌, subst, ⊎_elim, inl, inr, arith}
use Rattle.std.specs.Prelude.{slice_get}
use Rattle.std.proofs.lemmas.Bool.{false≢true, cases_eq, cases_Bool}
use Rattle.std.proofs.lemmas.Bool.Decides.{nat_tests}
use Rattle.std.proofs.lemmas.Option.{slice_get_within, get_or_from_slice_get, same_Some, none-some}
use Rattle.mx_isa.specs.declared.inst.Inst.{Inst}
use Rattle.mx_isa.specs.declared.inst.Inst.TheVariants.{Halt}
use Rattle.mx_isa.specs.Views.{is_load, is_transfer, reads, writes, Access, access}
use Rattle.mx_depend.specs.Independence.{Apart, OtherWord, Independent}
use Rattle.mx_depend.specs.Graphs.{inst_at}
use Rattle.mx_blocks.specs.declared.block.Block.{Block}
use Rattle.mx_blocks.specs.declared.block.Plan.{Plan}
use Rattle.mx_blocks.specs.declared.block.End.{End}
use Rattle.mx_blocks.specs.declared.block.End.TheVariants.{Falls}
use Rattle.mx_blocks.specs.declared.block.Item.{Item}
use Rattle.mx_blocks.specs.declared.block.Item.TheVariants.{Op, Nop}
use Rattle.mx_blocks.specs.Ends.{ends_as}
use Rattle.mx_blocks.specs.Items.{StandsAt, ops, times}
use Rattle.mx_validate.specs.Padded.{insts_of, items_of, falls, body_count, padded_from, no_ops_after}
use Rattle.mx_validate.specs.Validity.{end_count}
use Rattle.mx_validate.proofs.PaddedLists.{padded_more}
use Rattle.mx_reorg.specs.Greedy.{Fills, IsCandidate, IsGreedy, terminator}
use Rattle.mx_reorg.proofs.Choices.{op_same}
use Rattle.mx_reorg.proofs.Spent.{total, fresh_zero, body_low}

apart_stable : (p q : ℕ → Bool) → (¬ (¬ Apart p q)) → Apart p q
apart_stable p q h n e = ⊎_elim
    (λ t. absurd (h (λ a. false≢true (sym (a n e) ∙ t))))
    (λ f. f)
    (cases_Bool (q n))

other_stable : (input : Bool) (a b : Option Access) → (¬ (¬ OtherWord input a b)) → OtherWord input a b
other_stable input None b h = tt
other_stable input (Some a) None h = tt
other_stable input (Some a) (Some b) h = λ e. (
  ⊎_elim (λ same. same) (λ apart. absurd (h (λ w. apart (w e).0))) (cases_eq a.base b.base),
  λ f. h (λ w. (w e).1 f),
)

-- that two instructions are independent is so where it is not refuted
pub independent_stable : (x y : Inst) (input : Bool) → (¬ (¬ Independent x y input)) → Independent x y input
independent_stable x y input h = record {
  writes_reads = apart_stable (writes x) (reads y) (λ n. h (λ i. n i.writes_reads));
  reads_writes = apart_stable (writes y) (reads x) (λ n. h (λ i. n i.reads_writes));
  writes_writes = apart_stable (writes x) (writes y) (λ n. h (λ i. n i.writes_writes));
  memory = other_stable input (access x) (access y) (λ n. h (λ i. n i.memory));
}

-- a front costs no more than the padded plan
cost_padded : (i : Inst) → cond (is_load i) 2 1 ≤ suc (length (no_ops_after i))
cost_padded i = by (is_load i) refl
  where
    by : (b : Bool) → is_load i ≡ b → cond (is_load i) 2 1 ≤ suc (length (no_ops_after i))
    by true e = let f : Bool
        → Type 0 = λ b. cond b 2 1 ≤ suc (length (cond b (Nop ∷ []) (cond (is_transfer i) (Nop ∷ Nop ∷ []) []))) in subst f (sym e) (omega arith)
    by false e = let f : Bool
        → Type 0 = λ b. cond b 2 1 ≤ suc (length (cond b (Nop ∷ []) (cond (is_transfer i) (Nop ∷ Nop ∷ []) []))) in subst f (sym e) (omega arith)

pub total_padded : (insts : List Inst) (m : ℕ) → m ≤ length insts → total insts m ≤ length (padded_from 0 (take m insts))
total_padded insts zero l = omega arith
total_padded insts (suc m) l =
    let rest = total_padded insts m (omega arith) in
    let one = cost_padded (inst_at insts m) in
    let next : suc m ≡ m + 1 = omega arith in
    let grown = ap (λ k. length (padded_from 0 (take k insts))) next ∙ ap length (padded_more insts m Halt (omega arith))
    ∙ length-append (padded_from 0 (take m insts)) (Op m ∷ no_ops_after (inst_at insts m)) in
    omega arith

pub taken_stands : (xs : List Item) (p q k : ℕ) → StandsAt (take q xs) p k → StandsAt xs p k
taken_stands [] p zero k s = absurd (none-some (Op k) s)
taken_stands [] p (suc q) k s = absurd (none-some (Op k) s)
taken_stands (x ∷ xs) p zero k s = absurd (none-some (Op k) s)
taken_stands (x ∷ xs) zero (suc q) k s = s
taken_stands (x ∷ xs) (suc p) (suc q) k s = taken_stands xs p q k s

pub stands_taken : (xs : List Item) (p q k : ℕ) → StandsAt xs p k → p < q → StandsAt (take q xs) p k
stands_taken [] p q k s l = absurd (none-some (Op k) s)
stands_taken (x ∷ xs) p zero k s l = absurd (omega arith)
stands_taken (x ∷ xs) zero (suc q) k s l = s
stands_taken (x ∷ xs) (suc p) (suc q) k s l = stands_taken xs p q k s (omega arith)

pub some_insts : (end : End) (insts : List Inst) → ends_as end insts ≡ true → 1 ≤ length insts
some_insts end [] h = absurd (false≢true h)
some_insts end (x ∷ insts) h = omega arith

-- a number that stands at one place at most is counted once at most
pub once_low : (xs : List Item) (k : ℕ) → ((p q : ℕ) → StandsAt xs p k → StandsAt xs q k → p < q → ⊥) → times k (ops xs) ≤ 1
once_low [] k h = omega arith
once_low (Nop ∷ xs) k h = once_low xs k (λ p q s t l. h (suc p) (suc q) s t (omega arith))
once_low (Op j ∷ xs) k h = ⊎_elim
    (λ e.
    let none : times k (ops xs) ≡ 0 = fresh_zero xs k (λ s. h 0 (suc s.at) (ap (λ n. Some (Op n)) (sym e)) s.stands (omega arith)) in
    grind (arith, nat_tests))
    (λ ne. let rest = once_low xs k (λ p q s t l. h (suc p) (suc q) s t (omega arith)) in grind (arith, nat_tests))
    (cases_eq k j)

module _ (block : Block) (plan : Plan) (g : IsGreedy block plan) where
  pub body_before : falls block.end ≡ false → body_count block ≡ terminator block
  body_before f = ap (λ b. cond b (length (insts_of block)) (length (insts_of block) - 1)) f

  falls_none : (end : End) → falls end ≡ true → end_count end ≡ 0
  falls_none Falls t = refl
  falls_none _ t = absurd (false≢true t)

  -- what stands: the terminator at its place, elsewhere a candidate of the place
  pub placed : (p k : ℕ) → StandsAt (items_of plan) p k
      → ((p ≡ plan.place) × ((falls block.end ≡ false) × (k ≡ terminator block))) ⊎ IsCandidate block (take p (items_of plan)) k
  placed p k s = ⊎_elim
      (λ at. ⊎_elim
      (λ t. (let none = falls_none block.end t in let tail = g.tail in let within = slice_get_within (items_of plan) p (Op k) s in absurd (omega arith)))
      (λ f. inl (
        at,
        (
          f,
          op_same k (terminator block) (Op k) refl
              (same_Some (Op k) (Op (terminator block)) (sym s ∙ ap (slice_get (items_of plan)) at ∙ g.terminator f)),
        ),
      ))
      (cases_Bool (falls block.end)))
      (λ apart. inr (best (g.filled p (slice_get_within (items_of plan) p (Op k) s) apart)))
      (cases_eq p plan.place)
    where
      best : Fills block (take p (items_of plan)) (slice_index_or (items_of plan) p Nop) → IsCandidate block (take p (items_of plan)) k
      best f = (subst (λ (x : Item). Fills block (take p (items_of plan)) x) (get_or_from_slice_get (items_of plan) p (Op k) Nop s) f).candidate

  -- no instruction stands twice
  pub apart_places : (p q k : ℕ) → StandsAt (items_of plan) p k → StandsAt (items_of plan) q k → p < q → ⊥
  apart_places p q k s t l = ⊎_elim
      (λ at. ⊎_elim
      (λ also. (let a = at.0 in let b = also.0 in absurd (omega arith)))
      (λ c. (let a = at.1.1 in let b = body_before at.1.0 in let low = c.body in absurd (omega arith)))
      (placed p k s))
      (λ c. c.fresh (record { at = p; stands = stands_taken (items_of plan) p q k s l }))
      (placed q k t)

  pub low_places : (p k : ℕ) → StandsAt (items_of plan) p k → k < length (insts_of block)
  low_places p k s = ⊎_elim
      (λ at. (let some = some_insts block.end (insts_of block) block.last in let e = at.1.1 in omega arith))
      (λ c. (let low = c.body in let small = body_low (falls block.end) (length (insts_of block)) in omega arith))
      (placed p k s)
