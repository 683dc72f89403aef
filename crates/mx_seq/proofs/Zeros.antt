-- Lists that begin or end with many of one element.
use Rattle.std.proofs.Common.{◌≡◌, ℕ, zero, suc, ◌-◌, ◌<◌, cond, leb, List, [], ◌∷◌, ◌++◌, length, refl, sym, ◌∙◌, arith, ⊎_elim}
use Rattle.std.proofs.lemmas.Bool.{cond-true, cond-false}
use Rattle.std.proofs.lemmas.Bool.Decides.{leb_tells}
use Rattle.std.proofs.lemmas.List.{length-replicate, get_or_append_left, get_or-append_right}
use Rattle.std.proofs.Math.ListN.{get_or, replicate}

-- many of one element: it is found everywhere, where it is also what is read past the end
pub get_or-replicate_same : {A : Type 0} (n i : ℕ) (a : A) → get_or (replicate n a) i a ≡ a
get_or-replicate_same zero i a = refl
get_or-replicate_same (suc n) zero a = refl
get_or-replicate_same (suc n) (suc i) a = get_or-replicate_same n i a

-- more of the element that is read past the end change nothing
pub get_or-padded : {A : Type 0} (xs : List A) (n i : ℕ) (a : A) → get_or (xs ++ replicate n a) i a ≡ get_or xs i a
get_or-padded [] n i a = get_or-replicate_same n i a
get_or-padded (x ∷ xs) n zero a = refl
get_or-padded (x ∷ xs) n (suc i) a = get_or-padded xs n i a

-- a list that stands behind some of that element and before some more
pub get_or-between : {A : Type 0} (m n : ℕ) (xs : List A) (i : ℕ) (a : A)
    → get_or ((replicate m a ++ xs) ++ replicate n a) i a ≡ cond (leb m i) (get_or xs (i - m) a) a
get_or-between m n xs i a = get_or-padded (replicate m a ++ xs) n i a ∙
    ⊎_elim (λ h. get_or-append_right (replicate m a) xs m i a (length-replicate m a) h.1 ∙ sym (cond-true (leb m i) (get_or xs (i - m) a) a h.0))
    (λ h. let short : i < length (replicate m a) = before m i a h.1 in
    get_or_append_left (replicate m a) xs a i short ∙ (get_or-replicate_same m i a ∙ sym (cond-false (leb m i) (get_or xs (i - m) a) a h.0)))
    (leb_tells m i)
  where
    before : {A : Type 0} (m i : ℕ) (a : A) → i < m → i < length (replicate m a)
    before m i a h = let e = length-replicate m a in omega arith
