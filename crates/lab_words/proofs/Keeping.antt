-- A table in which the first index of each offset is kept, one index after the other.
use Rattle.std.proofs.Common.{◌≡◌, ℕ, zero, suc, ◌+◌, ◌<◌, ◌≤◌, Bool, true, false, cond, ◌==◌, List, [], ◌∷◌, ◌++◌, length, get_or, set, take, drop, replicate, Option, Some, None, refl, sym, ap, ◌∙◌, subst, arith, add-one}
use Rattle.std.specs.Option.{option_or}
use Rattle.std.proofs.lemmas.Bool.Decides.{nat_tests}
use Rattle.std.proofs.lemmas.List.{get_or-set_same, get_or-set_other}
use Rattle.std.proofs.Math.Seq.{drop-cons, take-append_seam}
use Rattle.lab_words.specs.Tables.{entry, offset_is, first_from}

pub nothing : (o : Option ℕ) → o ≡ option_or o None
nothing None = refl
nothing (Some n) = refl

by_default : (table : List (Option ℕ)) (p : ℕ) (x y : Option ℕ) → p < length table → get_or table p x ≡ get_or table p y
by_default [] p x y h = absurd (omega arith)
by_default (o ∷ table) zero x y h = refl
by_default (o ∷ table) (suc p) x y h = by_default table p x y (omega arith)

apart : (p k : ℕ) → (p == k) ≡ false → k ≡ p → ⊥
apart p k h same = grind (arith, nat_tests)

-- what the table has at k, where an index is kept at p unless one is there
pub kept : (table : List (Option ℕ)) (p i k : ℕ) (x y : Option ℕ) → p < length table → x ≡ get_or table p x → y ≡ option_or x (Some i)
    → get_or (set table p y) k None ≡ option_or (get_or table k None) (cond (p == k) (Some i) None)
kept table p i k x y h e e1 = by_test (p == k) refl
  where
    there : x ≡ get_or table p None
    there = e ∙ by_default table p x None h

    by_test : (b : Bool) → (p == k) ≡ b → get_or (set table p y) k None ≡ option_or (get_or table k None) (cond b (Some i) None)
    by_test true t =
        let same : p ≡ k = grind (arith, nat_tests) in
        subst (λ j. get_or (set table p y) j None ≡ option_or (get_or table j None) (Some i)) same
        (get_or-set_same table p y None h ∙ (e1 ∙ ap (λ o. option_or o (Some i)) there))
    by_test false t = get_or-set_other table p k y None (apart p k t) ∙ nothing (get_or table k None)

-- no place of the table is p
pub past : (table : List (Option ℕ)) (p i k : ℕ) → length table ≤ p → k < length table
    → get_or table k None ≡ option_or (get_or table k None) (cond (p == k) (Some i) None)
past table p i k h lt =
    let other : (p == k) ≡ false = grind (arith, nat_tests) in
    nothing (get_or table k None) ∙ ap (λ b. option_or (get_or table k None) (cond b (Some i) None)) (sym other)

entry_none : (n k : ℕ) → entry (replicate n None) k ≡ None
entry_none zero k = refl
entry_none (suc n) zero = refl
entry_none (suc n) (suc k) = entry_none n k

-- nothing is kept yet
pub none_kept : (n k : ℕ) (offsets : List (Option ℕ)) → option_or (entry (replicate n None) k) (first_from k 0 offsets) ≡ first_from k 0 offsets
none_kept n k offsets = ap (λ o. option_or o (first_from k 0 offsets)) (entry_none n k)

-- one more offset, whose index is kept
pub one_kept : (offsets : List (Option ℕ)) (i k : ℕ) (x old new : Option ℕ) → i < length offsets → get_or offsets i None ≡ x
    → new ≡ option_or old (cond (offset_is x k) (Some i) None) → option_or old (first_from k i (drop i offsets)) ≡ first_from k 0 offsets
    → option_or new (first_from k (i + 1) (drop (i + 1) offsets)) ≡ first_from k 0 offsets
one_kept offsets i k x old new lt e h all =
    rw add-one
    (ap (λ o. option_or o (first_from k (suc i) (drop (suc i) offsets))) h
    ∙ by_entry old (offset_is x k)
    ∙ ap (λ y. option_or old (first_from k i (y ∷ drop (suc i) offsets))) (sym e)
    ∙ ap (λ xs. option_or old (first_from k i xs)) (sym (drop-cons offsets i None lt))
    ∙ all)
  where
    by_entry : (o : Option ℕ) (b : Bool) → option_or (option_or o (cond b (Some i) None)) (first_from k (suc i) (drop (suc i) offsets))
        ≡ option_or o (cond b (Some i) (first_from k (suc i) (drop (suc i) offsets)))
    by_entry (Some n) b = refl
    by_entry None true = refl
    by_entry None false = refl

drop_past : (offsets : List (Option ℕ)) (i : ℕ) → length offsets ≤ i → drop i offsets ≡ []
drop_past [] zero h = refl
drop_past [] (suc i) h = refl
drop_past (o ∷ offsets) zero h = absurd (omega arith)
drop_past (o ∷ offsets) (suc i) h = drop_past offsets i (omega arith)

-- all are kept
pub all_kept : (k i : ℕ) (o : Option ℕ) (offsets : List (Option ℕ)) → length offsets ≤ i → option_or o (first_from k i (drop i offsets)) ≡ o
all_kept k i o offsets h = ap (λ xs. option_or o (first_from k i xs)) (drop_past offsets i h) ∙ sym (nothing o)

-- a table that is lent as a whole, and written
pub whole : (new old : List (Option ℕ)) (long : ℕ) → length new ≡ long → take long (new ++ drop (length new) old) ≡ new
whole new old long e = subst (λ n. take n (new ++ drop (length new) old) ≡ new) e (take-append_seam new (drop (length new) old))
