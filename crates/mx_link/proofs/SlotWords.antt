-- What is copied into slots.
use Rattle.std.proofs.Common.{◌≡◌, ℕ, ◌+◌, ◌<◌, ◌≤◌, Bool, true, false, cond, eqb, ltb, [], ◌∷◌, Some, refl, sym, ap, ◌∙◌, inl, inr, ⊎_elim, arith}
use Rattle.std.specs.Prelude.{slice_get, slice_index_or, ◌⊎◌}
use Rattle.std.proofs.lemmas.Bool.{cases_lt, cases_eq}
use Rattle.std.proofs.lemmas.Bool.Decides.{nat_tests}
use Rattle.mx_blocks.specs.declared.Plan.{Plan}
use Rattle.mx_blocks.specs.declared.Item.{Item}
use Rattle.mx_blocks.specs.declared.Item.TheVariants.{Op, Nop}
use Rattle.mx_squash.specs.declared.Copied.{Copied}
use Rattle.mx_squash.specs.Copies.{Site, may_copy, copyable, is_op, item_at, room, filled, no_copies, copied}
use Rattle.mx_squash.specs.Chosen.{copies_of}
use Rattle.mx_link.specs.Origins.{copied_to}
use Rattle.mx_link.proofs.Bodies.{MayCopy, may_copy_op, both}

pub nop_op : (k : ℕ) → Nop ≡ Op k → ⊥
nop_op k e = cc

-- what is copied to a place stands in one of the two slots
pub slot_cases :
    (c : Copied) (place p k : ℕ) → copied_to c place p ≡ Op k → (slice_index_or c.from 0 Nop ≡ Op k) ⊎ (slice_index_or c.from 1 Nop ≡ Op k)
slot_cases c place p k = one_of (eqb p (place + 1)) (eqb p (place + 2)) (slice_index_or c.from 0 Nop) (slice_index_or c.from 1 Nop)
  where
    one_of : (a b : Bool) (x y : Item) → cond a x (cond b y Nop) ≡ Op k → (x ≡ Op k) ⊎ (y ≡ Op k)
    one_of true b x y e = inl e
    one_of false true x y e = inr e
    one_of false false x y e = absurd (nop_op k e)

-- of two words the slots hold the first where there is a copy, and the second where there are two
pub record IsFilled (n : ℕ) (first second : Item) (k : ℕ) : Type 0 where
  pub which : ((1 ≤ n) × (first ≡ Op k)) ⊎ ((2 ≤ n) × (second ≡ Op k))

first_slot : (free n : ℕ) (first second : Item) (k : ℕ) → slice_index_or (filled free n first second) 0 Nop ≡ Op k → IsFilled n first second k
first_slot free n first second k = ⊎_elim
    (λ z e. absurd (nop_op k (sym (ap (λ t. slice_index_or (cond t (Nop ∷ Nop ∷ [])
    (cond (eqb free 1) (Nop ∷ first ∷ []) (cond (eqb n 1) (first ∷ Nop ∷ []) (first ∷ second ∷ [])))) 0 Nop) (zero_true n z)) ∙ e)))
    (λ some e. record { which = inl (omega arith, at_first (eqb n 0) (eqb free 1) (eqb n 1) e) })
    (cases_eq n 0)
  where
    zero_true : (m : ℕ) → m ≡ 0 → eqb m 0 ≡ true
    zero_true m z = grind (arith, nat_tests)

    at_first :
        (a b c : Bool) → slice_index_or (cond a (Nop ∷ Nop ∷ [])
        (cond b (Nop ∷ first ∷ []) (cond c (first ∷ Nop ∷ []) (first ∷ second ∷ [])))) 0 Nop ≡ Op k → first ≡ Op k
    at_first true b c e = absurd (nop_op k e)
    at_first false true c e = absurd (nop_op k e)
    at_first false false true e = e
    at_first false false false e = e

second_slot : (free n : ℕ) (first second : Item) (k : ℕ) → slice_index_or (filled free n first second) 1 Nop ≡ Op k → IsFilled n first second k
second_slot free n first second k = by_tests (eqb n 0) (eqb free 1) (eqb n 1) refl refl
  where
    some : eqb n 0 ≡ false → 1 ≤ n
    some f = grind (arith, nat_tests)

    two : eqb n 0 ≡ false → eqb n 1 ≡ false → 2 ≤ n
    two f g = grind (arith, nat_tests)

    by_tests :
        (a b c : Bool) → eqb n 0 ≡ a → eqb n 1 ≡ c → slice_index_or
        (cond a (Nop ∷ Nop ∷ []) (cond b (Nop ∷ first ∷ []) (cond c (first ∷ Nop ∷ []) (first ∷ second ∷ [])))) 1 Nop ≡ Op k
        → IsFilled n first second k
    by_tests true b c f g e = absurd (nop_op k e)
    by_tests false true c f g e = record { which = inl (some f, e) }
    by_tests false false true f g e = absurd (nop_op k e)
    by_tests false false false f g e = record { which = inr (two f g, e) }

pub filled_cases :
    (free n : ℕ) (first second : Item) (k : ℕ) → (slice_index_or (filled free n first second) 0 Nop ≡ Op k)
    ⊎ (slice_index_or (filled free n first second) 1 Nop ≡ Op k) → IsFilled n first second k
filled_cases free n first second k h = ⊎_elim (first_slot free n first second k) (second_slot free n first second k) h

-- as many words as are copyable may be copied
copyable_tests : (a b : Bool) → (1 ≤ cond a (cond b 2 1) 0 → a ≡ true) × (2 ≤ cond a (cond b 2 1) 0 → b ≡ true)
copyable_tests true true = (λ h. refl, λ h. refl)
copyable_tests true false = (λ h. refl, λ h. absurd (omega (arith, h)))
copyable_tests false b = (λ h. absurd (omega (arith, h)), λ h. absurd (omega (arith, h)))

pub copyable_first : (plan : Plan) → 1 ≤ copyable plan → may_copy plan 0 ≡ true
copyable_first plan = (copyable_tests (may_copy plan 0) (may_copy plan 1)).0

pub copyable_second : (plan : Plan) → 2 ≤ copyable plan → may_copy plan 1 ≡ true
copyable_second plan = (copyable_tests (may_copy plan 0) (may_copy plan 1)).1

may_copy_before : (plan : Plan) (k : ℕ) → may_copy plan k ≡ true → k < plan.place
may_copy_before plan k h = let t = (both (ltb k plan.place) (is_op (slice_get plan.items.items k)) h).0 in grind (arith, nat_tests)

pub at_most_two : (a b : Bool) → cond a (cond b 2 1) 0 ≤ 2
at_most_two true true = omega arith
at_most_two true false = omega arith
at_most_two false b = omega arith

pub copyable_small : (plan : Plan) → copyable plan ≤ plan.place
copyable_small plan = ⊎_elim
    (λ none. omega arith)
    (λ some. ⊎_elim
    (λ one. let low = may_copy_before plan 0 (copyable_first plan (omega arith)) in omega arith)
    (λ two. let low = may_copy_before plan 1 (copyable_second plan two) in let high = at_most_two (may_copy plan 0) (may_copy plan 1) in omega arith)
    (cases_lt (copyable plan) 2))
    (cases_lt (copyable plan) 1)

-- of so many copied words each may be copied from its target
pub words_op :
    (n : ℕ) (s g : Site) (place p k : ℕ) → n ≤ copyable g.plan → copied_to (copies_of n s (Some g)) place p ≡ Op k → (q : ℕ) × MayCopy g.plan q k
words_op n s g place p k small e = ⊎_elim
    (λ h. (0, may_copy_op g.plan 0 k (copyable_first g.plan (let one = h.0 in omega arith)) h.1))
    (λ h. (1, may_copy_op g.plan 1 k (copyable_second g.plan (let two = h.0 in omega arith)) h.1))
    (filled_cases (room s.block s.plan) n (item_at g.plan 0) (item_at g.plan 1) k (slot_cases (copies_of n s (Some g)) place p k e)).which

-- nothing is copied where there is no target
pub copied_none : (place p k : ℕ) → copied_to no_copies place p ≡ Op k → ⊥
copied_none place p k e = ⊎_elim (λ h. nop_op k h) (λ h. nop_op k h) (slot_cases no_copies place p k e)
