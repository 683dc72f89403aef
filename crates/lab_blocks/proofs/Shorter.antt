-- No valid plan is shorter than the lower bound: each edge parts its instructions by its weight, and something follows the last of a path.
use Rattle.std.proofs.Common.{◌≡◌, ℕ, zero, suc, ◌+◌, ◌-◌, ◌<◌, ◌≤◌, Bool, true, false, not, eqb, List, [], ◌∷◌, length, Some, refl, sym, ap, ◌∙◌, subst, ⊎_elim, arith}
use Rattle.std.specs.Prelude.{slice_get, cond, ◌&&◌}
use Rattle.std.proofs.lemmas.Bool.{cases_eq, cases_lt, true≢false, false≢true}
use Rattle.std.proofs.lemmas.Bool.Decides.{nat_tests}
use Rattle.mx_isa.specs.Views.{is_load}
use Rattle.mx_depend.specs.Independence.{feeds}
use Rattle.mx_depend.specs.Graphs.{inst_at, IsEdge, IsPath, weight}
use Rattle.mx_blocks.specs.declared.block.Block.{Block}
use Rattle.mx_blocks.specs.declared.block.Plan.{Plan}
use Rattle.mx_blocks.specs.declared.block.Item.{Item}
use Rattle.mx_blocks.specs.declared.block.Item.TheVariants.{Op, Nop}
use Rattle.mx_blocks.specs.Items.{StandsAt, ops, times}
use Rattle.mx_blocks.specs.Leaders.{size}
use Rattle.mx_validate.specs.Padded.{insts_of, items_of, falls}
use Rattle.mx_validate.specs.Validity.{EachOnce, Valid, end_count}
use Rattle.mx_validate.proofs.Listed.{Stands, stands_counts, counted_stands, stands_within, once_all}
use Rattle.law_order.proofs.Reorder.{once_length}
use Rattle.lab_blocks.specs.Bounds.{is_terminator, least_rest, span, Bounds, IsLowerBound, NoPlanIsShorter}

-- what stands at two places counts twice
twice : (k : ℕ) (items : List Item) (p q : ℕ) → StandsAt items p k → StandsAt items q k → p < q → 2 ≤ times k (ops items)
twice k [] p q s t l = absurd (cc)
twice k (item ∷ items) p zero s t l = absurd (omega arith)
twice k (Op j ∷ items) zero (suc q) s t l = let same : j ≡ k = cc in let rest = stands_counts k items q t in grind (arith, nat_tests)
twice k (Nop ∷ items) zero (suc q) s t l = absurd (cc)
twice k (Op j ∷ items) (suc p) (suc q) s t l = let rest = twice k items p q s t (omega arith) in grind (arith, nat_tests)
twice k (Nop ∷ items) (suc p) (suc q) s t l = twice k items p q s t (omega arith)

one_at_most : (n : ℕ) (items : List Item) → EachOnce n items → (k : ℕ) → times k (ops items) ≤ 1
one_at_most n items once k = let o = once k in grind (arith, nat_tests)

same_place : (n : ℕ) (items : List Item) → EachOnce n items → (k p q : ℕ) → StandsAt items p k → StandsAt items q k → p ≡ q
same_place n items once k p q s t = ⊎_elim
    (λ l. absurd (let two = twice k items p q s t l in let one = one_at_most n items once k in omega arith))
    (λ g. ⊎_elim (λ l. absurd (let two = twice k items q p t s l in let one = one_at_most n items once k in omega arith)) (λ h. omega arith) (cases_lt q p))
    (cases_lt p q)

same_op : (k j : ℕ) → Some (Op k) ≡ Some (Op j) → k ≡ j
same_op k j e = cc

pub all_there : (items : List Item) → length (ops items) ≤ length items
all_there [] = omega arith
all_there (Op k ∷ items) = let rest = all_there items in omega arith
all_there (Nop ∷ items) = let rest = all_there items in omega arith

-- what holds of a terminator
terminator_is : (f : Bool) (k n : ℕ) → (not f && eqb k n) ≡ true → (f ≡ false) × (k ≡ n)
terminator_is true k n e = absurd (false≢true e)
terminator_is false k n e = (refl, grind (arith, nat_tests))

-- the least rest, by what an instruction is
rest_by : (terminator load : Bool) (count room : ℕ) → (terminator ≡ true → count ≤ room) → (load ≡ true → 2 ≤ room) → 1 ≤ room
    → cond terminator count (cond load 2 1) ≤ room
rest_by true load count room t l o = t refl
rest_by false true count room t l o = l refl
rest_by false false count room t l o = o

-- where a reader does not directly follow its load, and nothing goes before what it depends on, an edge parts its ends by its weight
parted : (fed : Bool) (p q : ℕ) → (fed ≡ true → suc p ≡ q → ⊥) → p < q → p + cond fed 2 1 ≤ q
parted true p q apart l = ⊎_elim (λ more. omega arith) (λ less. absurd (apart refl (omega arith))) (cases_lt (suc p) q)
parted false p q apart l = omega arith

module _ (block : Block) (plan : Plan) (v : Valid block plan) where
  abbrev items : List Item
  items = items_of plan

  -- the terminator stands at its place
  at_end : (k p : ℕ) → StandsAt items p k → is_terminator block k ≡ true → p + end_count block.end ≤ length items
  at_end k p s t =
      let is = terminator_is (falls block.end) k (size block - 1) t in
      let last : StandsAt items plan.place k = subst (λ j. StandsAt items plan.place j) (sym is.1) (v.terminator is.0) in
      let same = same_place (size block) items v.once k p plan.place s last in
      let tail = v.tail in
      omega arith

  delayed : (k p : ℕ) → StandsAt items p k → is_load (inst_at (insts_of block) k) ≡ true → p + 2 ≤ length items
  delayed k p s load =
      let within = stands_within items p k s in
      ⊎_elim
      (λ l. omega arith)
      (λ g. absurd (true≢false (sym load ∙ v.last p k s (omega arith))))
      (cases_lt (suc p) (length items))

  rest : (k p : ℕ) → StandsAt items p k → p + least_rest block k ≤ length items
  rest k p s =
      let within = stands_within items p k s in
      let room : least_rest block k ≤ length items - p =
      rest_by (is_terminator block k) (is_load (inst_at (insts_of block) k)) (end_count block.end) (length items - p)
      (λ t. let end = at_end k p s t in omega arith) (λ load. let two = delayed k p s load in omega arith) (omega arith) in
      omega arith

  place_of : (k : ℕ) → k < size block → Stands items k
  place_of k l = counted_stands k items (let one = once_all (size block) items v.once k l in omega arith)

  -- what depends on an instruction stands behind it
  behind : (x y p q : ℕ) → StandsAt items p x → StandsAt items q y → IsEdge (insts_of block) block.input x y → p < q
  behind x y p q s t edge = ⊎_elim
      (λ l. l)
      (λ g. ⊎_elim
      (λ l. absurd (edge.depends (v.order q p y x t s l edge.later)))
      (λ h. let same : p ≡ q = omega arith in let here = subst (λ r. StandsAt items r x) same s in let both : x ≡ y =
      same_op x y (sym here ∙ t) in let later = edge.later in absurd (omega arith))
      (cases_lt q p))
      (cases_lt p q)

  apart : (x y p q : ℕ) → StandsAt items p x → StandsAt items q y → IsEdge (insts_of block) block.input x y → p + weight (insts_of block) x y ≤ q
  apart x y p q s t edge =
      parted (feeds (inst_at (insts_of block) x) (inst_at (insts_of block) y)) p q
      (λ fed next. true≢false (sym fed ∙ v.apart p x y s (subst (λ r. StandsAt items r y) (sym next) t)))
      (behind x y p q s t edge)

  pub spanned : (x p : ℕ) (path : List ℕ) → StandsAt items p x → IsPath (insts_of block) block.input x path → p + span block x path ≤ length items
  spanned x p [] s leads = rest x p s
  spanned x p (y ∷ path) s leads =
      let there = place_of y leads.0.within in
      let one = apart x y p there.at s there.stands leads.0 in
      let more = spanned y there.at path there.stands leads.1 in
      omega arith

  pub counted : size block ≤ length items
  counted =
      let all = all_there items in
      let once = once_length (size block) 0 (ops items) (λ k. v.once k ∙ grind (arith, nat_tests)) in
      omega arith

  pub bounded : Bounds block (length items)
  bounded = record {
    count = counted;
    paths = λ x path l leads. let there = place_of x l in let more = spanned x there.at path there.stands leads in omega arith;
  }

pub no_plan_is_shorter : NoPlanIsShorter
no_plan_is_shorter block plan n v b = b.least (length (items_of plan)) (bounded block plan v)
