-- What one more label does to a group.
use Rattle.std.proofs.Common.{◌≡◌, ◌≢◌, ℕ, zero, suc, ◌+◌, ◌≤◌, Bool, true, false, cond, ◌==◌, List, [], ◌∷◌, ◌++◌, length, take, codes, Option, Some, None, refl, sym, ap, ◌∙◌, arith, ◌⊎◌, inl, inr, ⊎_elim, append_assoc, add-one}
use Rattle.std.specs.List.{find, slice_get}
use Rattle.std.specs.Option.{option_map, unwrap_or, option_or}
use Rattle.std.proofs.lemmas.Bool.{cases_Bool, cond-true, cond-false}
use Rattle.std.proofs.lemmas.List.{take-append-le, append-nil}
use Rattle.std.proofs.lemmas.Bool.Decides.{nat_tests}
use Rattle.std.proofs.lemmas.Grind.{common_steps}
use Rattle.std.proofs.lemmas.List.Concat.{flat_map-append}
use Rattle.std.proofs.lemmas.List.Folds.{find-append}
use Rattle.std.proofs.lemmas.Option.{none-some}
use Rattle.std.proofs.Math.Seq.{take-append_seam}
use Rattle.std.proofs.Math.ListN.{set}
use Rattle.mx_source.specs.declared.statement.Label.{Label}
use Rattle.mx_source.specs.declared.group.Group.{Group}
use Rattle.mx_source.specs.Printed.{Labels, ended, label_lines, first_name}
use Rattle.mx_source.specs.Groups.{IsGroup}

some_inj : {A : Type 0} {x y : A} → Some x ≡ Some y → x ≡ y
some_inj e = cc

cond-suc : (k m n : ℕ) → cond (suc k == 0) m n ≡ n
cond-suc k m n = grind (arith, nat_tests)

-- an element of a list after a write
pub slice_get-set_cases : {A : Type 0} (xs : List A) (i k : ℕ) (y g : A) → slice_get (set xs i y) k ≡ Some g →
    ((k ≡ i) × (y ≡ g)) ⊎ ((k ≢ i) × (slice_get xs k ≡ Some g))
slice_get-set_cases [] i k y g e = absurd (none-some g e)
slice_get-set_cases (x ∷ xs) zero zero y g e = inl (refl, some_inj e)
slice_get-set_cases (x ∷ xs) zero (suc k) y g e = inr ((λ h. omega (arith, h)), e)
slice_get-set_cases (x ∷ xs) (suc i) zero y g e = inr ((λ h. omega (arith, h)), e)
slice_get-set_cases (x ∷ xs) (suc i) (suc k) y g e =
    ⊎_elim (λ h. inl (ap suc h.0, h.1)) (λ h. inr ((λ q. h.0 (suc_inj k i q)), h.1)) (slice_get-set_cases xs i k y g e)
  where
    suc_inj : (k i : ℕ) → suc k ≡ suc i → k ≡ i
    suc_inj k i q = omega arith

-- an element of a list with one more
pub slice_get-push_cases : {A : Type 0} (xs : List A) (k : ℕ) (y g : A) → slice_get (xs ++ y ∷ []) k ≡ Some g →
    (slice_get xs k ≡ Some g) ⊎ (y ≡ g)
slice_get-push_cases [] zero y g e = inr (some_inj e)
slice_get-push_cases [] (suc k) y g e = absurd (none-some g e)
slice_get-push_cases (x ∷ xs) zero y g e = inl e
slice_get-push_cases (x ∷ xs) (suc k) y g e = slice_get-push_cases xs k y g e

-- one more element is taken
pub take-suc_more : {A : Type 0} (xs : List A) (i : ℕ) (x : A) → slice_get xs i ≡ Some x → take (suc i) xs ≡ take i xs ++ x ∷ []
take-suc_more [] i x e = absurd (none-some x e)
take-suc_more (y ∷ xs) zero x e = ap (λ z. z ∷ []) (some_inj e)
take-suc_more (y ∷ xs) (suc i) x e = ap (λ t. y ∷ t) (take-suc_more xs i x e)

pub take-one_more : {A : Type 0} (xs : List A) (i : ℕ) (x : A) → slice_get xs i ≡ Some x → take (i + 1) xs ≡ take i xs ++ x ∷ []
take-one_more xs i x e = rw add-one (take-suc_more xs i x e)

-- a group without labels
pub group_empty : (names : Label → Bool) (g : Group) → g.lines.items ≡ [] → g.first ≡ 0 → IsGroup names [] g
group_empty names g lines first = record { lines = lines; first = grind (arith, common_steps) }

module _ (names : Label → Bool) where
  -- a label of another place adds no line
  lines_kept : (labels : Labels) (n : List ℕ) (l : Label) → names l ≡ false → label_lines names (labels ++ (n, l) ∷ []) ≡ label_lines names labels
  lines_kept labels n l h = flat_map-append (λ p. cond (names p.1) (ended (p.0 ++ codes ":")) []) labels ((n, l) ∷ [])
      ∙ (ap (λ b. label_lines names labels ++ (cond b (ended (n ++ codes ":")) [] ++ [])) h ∙ append-nil (label_lines names labels))

  first_kept : (labels : Labels) (n : List ℕ) (l : Label) → names l ≡ false → first_name names (labels ++ (n, l) ∷ []) ≡ first_name names labels
  first_kept labels n l h = ap (λ o. unwrap_or (option_map (λ p. p.0) o) [])
      (find-append (λ p. names p.1) labels ((n, l) ∷ [])
      ∙ (ap (λ b. option_or (find (λ p. names p.1) labels) (cond b (Some (n, l)) None)) h ∙ option_or-none (find (λ p. names p.1) labels)))
    where
      option_or-none : (o : Option (List ℕ × Label)) → option_or o None ≡ o
      option_or-none None = refl
      option_or-none (Some x) = refl

  pub group_kept : (labels : Labels) (n : List ℕ) (l : Label) (g : Group) → names l ≡ false → IsGroup names labels g → IsGroup names (labels ++ (n, l) ∷ []) g
  group_kept labels n l g h was = record {
    lines = was.lines ∙ sym (lines_kept labels n l h);
    first = was.first ∙ sym (first_kept labels n l h);
  }

  -- a label of the place adds its line
  lines_added : (labels : Labels) (n : List ℕ) (l : Label) → names l ≡ true
      → label_lines names (labels ++ (n, l) ∷ []) ≡ label_lines names labels ++ (n ++ codes ":\n")
  lines_added labels n l h = flat_map-append (λ p. cond (names p.1) (ended (p.0 ++ codes ":")) []) labels ((n, l) ∷ [])
      ∙ (ap (λ b. label_lines names labels ++ (cond b (ended (n ++ codes ":")) [] ++ [])) h
      ∙ ap (λ t. label_lines names labels ++ t) (append-nil (ended (n ++ codes ":")) ∙ append_assoc n (codes ":") (10 ∷ [])))

  -- there are lines exactly where there is a label
  none_found : (labels : Labels) → find (λ p. names p.1) labels ≡ None → label_lines names labels ≡ []
  none_found [] h = refl
  none_found (x ∷ labels) h = ⊎_elim (λ t. absurd (none-some x (sym h ∙ cond-true (names x.1) (Some x) (find (λ p. names p.1) labels) t)))
      (λ f. ap (λ b. cond b (ended (x.0 ++ codes ":")) [] ++ label_lines names labels) f
      ∙ none_found labels (sym (cond-false (names x.1) (Some x) (find (λ p. names p.1) labels) f) ∙ h))
      (cases_Bool (names x.1))

  none_lines : (labels : Labels) → label_lines names labels ≡ [] → find (λ p. names p.1) labels ≡ None
  none_lines [] h = refl
  none_lines (x ∷ labels) h =
      ⊎_elim (λ t. absurd (some_text x.0 (label_lines names labels) (sym (ap (λ b. cond b (ended (x.0 ++ codes ":")) [] ++ label_lines names labels) t) ∙ h)))
      (λ f. cond-false (names x.1) (Some x) (find (λ p. names p.1) labels) f
      ∙ none_lines labels (sym (ap (λ b. cond b (ended (x.0 ++ codes ":")) [] ++ label_lines names labels) f) ∙ h))
      (cases_Bool (names x.1))
    where
      some_text : (n rest : List ℕ) → ended (n ++ codes ":") ++ rest ≡ [] → ⊥
      some_text [] rest e = cc
      some_text (b ∷ n) rest e = cc

  -- the first name, with one more label of the place
  first_of_none : (labels : Labels) (n : List ℕ) (l : Label) → names l ≡ true → find (λ p. names p.1) labels ≡ None
      → first_name names (labels ++ (n, l) ∷ []) ≡ n
  first_of_none labels n l h e = ap (λ o. unwrap_or (option_map (λ p. p.0) o) [])
      (find-append (λ p. names p.1) labels ((n, l) ∷ [])
      ∙ (ap (λ o. option_or o (cond (names l) (Some (n, l)) None)) e ∙ cond-true (names l) (Some (n, l)) None h))

  first_of_some : (labels : Labels) (n : List ℕ) (l : Label) (x : List ℕ × Label) → find (λ p. names p.1) labels ≡ Some x
      → first_name names (labels ++ (n, l) ∷ []) ≡ first_name names labels
  first_of_some labels n l x e = ap (λ o. unwrap_or (option_map (λ p. p.0) o) [])
      (find-append (λ p. names p.1) labels ((n, l) ∷ []) ∙ (ap (λ o. option_or o (cond (names l) (Some (n, l)) None)) e ∙ sym e))

  pub group_added : (labels : Labels) (n : List ℕ) (l : Label) (g new : Group) → names l ≡ true → IsGroup names labels g →
      new.lines.items ≡ g.lines.items ++ (n ++ codes ":\n") → new.first ≡ cond (length g.lines.items == 0) (length n) g.first →
      IsGroup names (labels ++ (n, l) ∷ []) new
  group_added labels n l g new h was lines first = record {
    lines = lines ∙ (ap (λ t. t ++ (n ++ codes ":\n")) was.lines ∙ sym (lines_added labels n l h));
    first = by_case (find (λ p. names p.1) labels) refl;
  }
    where
      empty : (t : List ℕ) → t ≡ [] → new.lines.items ≡ t ++ (n ++ codes ":\n") → new.first ≡ cond (length t == 0) (length n) g.first
          → take new.first new.lines.items ≡ n
      empty t e all at = ap (λ k. take k new.lines.items) (at ∙ ap (λ u. cond (length u == 0) (length n) g.first) e)
          ∙ (ap (λ u. take (length n) u) (all ∙ ap (λ u. u ++ (n ++ codes ":\n")) e) ∙ take-append_seam n (codes ":\n"))

      full : (t : List ℕ) → (t ≡ [] → ⊥) → g.first ≤ length t → new.lines.items ≡ t ++ (n ++ codes ":\n") → new.first ≡ cond (length t == 0) (length n) g.first
          → take new.first new.lines.items ≡ take g.first t
      full [] ne i all at = absurd (ne refl)
      full (b ∷ t) ne i all at =
          ap (λ k. take k new.lines.items) (at ∙ cond-suc (length t) (length n) g.first)
          ∙ (ap (λ u. take g.first u) all ∙ take-append-le g.first (b ∷ t) (n ++ codes ":\n") i)

      by_case : (o : Option (List ℕ × Label)) → find (λ p. names p.1) labels ≡ o → take new.first new.lines.items ≡ first_name names (labels ++ (n, l) ∷ [])
      by_case None e = empty g.lines.items (was.lines ∙ none_found labels e) lines first ∙ sym (first_of_none labels n l h e)
      by_case (Some x) e = full g.lines.items (λ z. none-some x (sym (none_lines labels (sym was.lines ∙ z)) ∙ e)) g.within lines first
          ∙ (was.first ∙ sym (first_of_some labels n l x e))
