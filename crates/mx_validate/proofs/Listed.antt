-- What stands in a list of items, and how often.
use Rattle.std.proofs.Common.{◌≡◌, ◌≢◌, ℕ, zero, suc, ◌+◌, ◌<◌, ◌≤◌, List, [], ◌∷◌, ◌++◌, length, Some, slice_index_or, take, refl, sym, ap, ◌∙◌, subst, ⊎_elim, arith}
use Rattle.std.proofs.lemmas.Bool.{cases_eq, cases_lt}
use Rattle.std.proofs.lemmas.Bool.Decides.{nat_tests}
use Rattle.std.proofs.lemmas.Option.{get_or_from_slice_get, slice_get-get_or, slice_get_within}
use Rattle.std.proofs.lemmas.List.{take_more}
use Rattle.mx_blocks.specs.declared.block.Item.{Item}
use Rattle.mx_blocks.specs.declared.block.Item.TheVariants.{Op, Nop}
use Rattle.mx_blocks.specs.Items.{StandsAt, ops, times}
use Rattle.mx_validate.specs.Validity.{EachOnce}

pub ops_append : (xs ys : List Item) → ops (xs ++ ys) ≡ ops xs ++ ops ys
ops_append [] ys = refl
ops_append (Op k ∷ xs) ys = ap (λ l. k ∷ l) (ops_append xs ys)
ops_append (Nop ∷ xs) ys = ops_append xs ys

pub times_append : (k : ℕ) (xs ys : List ℕ) → times k (xs ++ ys) ≡ times k xs + times k ys
times_append k [] ys = omega arith
times_append k (j ∷ xs) ys = grind (arith, nat_tests, times_append k xs ys)

-- what stands somewhere counts
pub stands_counts : (k : ℕ) (items : List Item) (p : ℕ) → StandsAt items p k → 1 ≤ times k (ops items)
stands_counts k [] p s = absurd (cc)
stands_counts k (Op j ∷ items) zero s = let same : j ≡ k = cc in grind (arith, nat_tests)
stands_counts k (Op j ∷ items) (suc p) s = let rest = stands_counts k items p s in grind (arith, nat_tests)
stands_counts k (Nop ∷ items) zero s = absurd (cc)
stands_counts k (Nop ∷ items) (suc p) s = stands_counts k items p s

-- a place where a number stands
pub record Stands (items : List Item) (k : ℕ) : Type 0 where
  pub at : ℕ
  pub stands : StandsAt items at k

pub counted_stands : (k : ℕ) (items : List Item) → 1 ≤ times k (ops items) → Stands items k
counted_stands k [] h = absurd (omega arith)
counted_stands k (Op j ∷ items) h = ⊎_elim
    (λ e. record { at = 0; stands = ap (λ n. Some (Op n)) (sym e) })
    (λ ne. let rest = counted_stands k items (grind (arith, nat_tests)) in record { at = suc rest.at; stands = rest.stands })
    (cases_eq k j)
counted_stands k (Nop ∷ items) h = let rest = counted_stands k items h in record { at = suc rest.at; stands = rest.stands }

-- each number below n once, and only such numbers
pub once_from_parts : (n : ℕ) (items : List Item) → ((p k : ℕ) → StandsAt items p k → k < n) → ((k : ℕ) → k < n → times k (ops items) ≡ 1) → EachOnce n items
once_from_parts n items below all k = ⊎_elim
    (λ l. all k l ∙ sym (grind (arith, nat_tests)))
    (λ g. none g ∙ sym (grind (arith, nat_tests)))
    (cases_lt k n)
  where
    none : n ≤ k → times k (ops items) ≡ 0
    none g = ⊎_elim
        (λ l. let s = counted_stands k items l in let b = below s.at k s.stands in absurd (omega arith))
        (λ m. omega arith)
        (cases_lt 0 (times k (ops items)))

pub once_below : (n : ℕ) (items : List Item) → EachOnce n items → (p k : ℕ) → StandsAt items p k → k < n
once_below n items once p k s = let h = stands_counts k items p s in let o = once k in grind (arith, nat_tests)

pub once_all : (n : ℕ) (items : List Item) → EachOnce n items → (k : ℕ) → k < n → times k (ops items) ≡ 1
once_all n items once k l = once k ∙ grind (arith, nat_tests)

pub at_stands : (items : List Item) (p k : ℕ) (d : Item) → StandsAt items p k → slice_index_or items p d ≡ Op k
at_stands items p k d s = get_or_from_slice_get items p (Op k) d s

pub stands_at : (items : List Item) (p k : ℕ) (d : Item) → p < length items → slice_index_or items p d ≡ Op k → StandsAt items p k
stands_at items p k d l e = slice_get-get_or items p d l ∙ ap (λ x. Some x) e

pub stands_within : (items : List Item) (p k : ℕ) → StandsAt items p k → p < length items
stands_within items p k s = slice_get_within items p (Op k) s

-- of the places below p + 1 each is below p or is p
pub next_place : (P : ℕ → Type 0) (p : ℕ) → ((r : ℕ) → r < p → P r) → P p → (r : ℕ) → r < p + 1 → P r
next_place P p below here r l = ⊎_elim (λ b. below r b) (λ g. let same : p ≡ r = omega arith in subst P same here) (cases_lt r p)

times_more : (k : ℕ) (items : List Item) (i : ℕ) (d : Item) → i < length items
    → times k (ops (take (i + 1) items)) ≡ times k (ops (take i items)) + times k (ops (slice_index_or items i d ∷ []))
times_more k items i d l =
    ap (λ xs. times k (ops xs)) (take_more items i d l)
    ∙ ap (times k) (ops_append (take i items) (slice_index_or items i d ∷ []))
    ∙ times_append k (ops (take i items)) (ops (slice_index_or items i d ∷ []))

one_op : (k : ℕ) (x : Item) → x ≡ Op k → times k (ops (x ∷ [])) ≡ 1
one_op k (Op j) e = let same : j ≡ k = cc in grind (arith, nat_tests)
one_op k Nop e = absurd (cc)

one_other : (k : ℕ) (x : Item) → (x ≡ Op k → ⊥) → times k (ops (x ∷ [])) ≡ 0
one_other k (Op j) ne = let apart : k ≢ j = λ e. ne (ap Op (sym e)) in grind (arith, nat_tests)
one_other k Nop ne = refl

-- one item more
pub times_op : (k : ℕ) (items : List Item) (i : ℕ) (d : Item) → i < length items → slice_index_or items i d ≡ Op k
    → times k (ops (take (i + 1) items)) ≡ times k (ops (take i items)) + 1
times_op k items i d l e = times_more k items i d l ∙ ap (λ n. times k (ops (take i items)) + n) (one_op k (slice_index_or items i d) e)

pub times_other : (k : ℕ) (items : List Item) (i : ℕ) (d : Item) → i < length items → (slice_index_or items i d ≡ Op k → ⊥)
    → times k (ops (take (i + 1) items)) ≡ times k (ops (take i items))
times_other k items i d l ne =
    times_more k items i d l
    ∙ ap (λ n. times k (ops (take i items)) + n) (one_other k (slice_index_or items i d) ne)
    ∙ (omega arith)
