-- Labels whose names differ.
use Rattle.std.proofs.Common.{◌≡◌, ℕ, suc, zero, false, List, [], ◌∷◌, ◌++◌, map, take, cond, Some, None, refl, ap, sym, ◌∙◌}
use Rattle.std.specs.List.{IsDistinct, AllByRecursion, slice_get}
use Rattle.std.specs.Option.{option_map}
use Rattle.std.specs.Str.{bytes_eq}
use Rattle.std.proofs.lemmas.Option.{slice_get-map}
use Rattle.mx_source.specs.declared.Label.{Label}
use Rattle.mx_lines.specs.Instructions.{Labels}
use Rattle.mx_lines.specs.Operands.{label_named}
use Rattle.mx_lines.proofs.Copied.{absent_before, behind_it, swapped}
use Rattle.mx_module.specs.Joined.{AreApart}

abbrev pub names : Labels → List (List ℕ)
names ls = map (λ (p : List ℕ × Label). p.0) ls

none_after : (first : List ℕ) (xs ys : Labels) → AllByRecursion (λ y. bytes_eq first y ≡ false) (names (xs ++ ys))
    → AllByRecursion (λ y. bytes_eq first y ≡ false) (names xs)
none_after first [] ys h = tt
none_after first (x ∷ xs) ys h = (h.0, none_after first xs ys h.1)

-- the first of them are apart
pub front_apart : (xs ys : Labels) → AreApart (xs ++ ys) → AreApart xs
unfolding IsDistinct
front_apart [] ys h = tt
front_apart (x ∷ xs) ys h = (none_after x.0 xs ys h.0, front_apart xs ys h.1)

pub both_none : (first : List ℕ) (xs ys : Labels) → AllByRecursion (λ y. bytes_eq first y ≡ false) (names xs)
    → AllByRecursion (λ y. bytes_eq first y ≡ false) (names ys)
    → AllByRecursion (λ y. bytes_eq first y ≡ false) (names (xs ++ ys))
both_none first [] ys h k = k
both_none first (x ∷ xs) ys h k = (h.0, both_none first xs ys h.1 k)

-- no name of the first ones is one of the others
abbrev pub AreAway : Labels → Labels → Type 0
AreAway [] ys = Unit {0}
AreAway (x ∷ xs) ys = AllByRecursion (λ y. bytes_eq x.0 y ≡ false) (names ys) × AreAway xs ys

pub both_apart : (xs ys : Labels) → AreApart xs → AreApart ys → AreAway xs ys → AreApart (xs ++ ys)
unfolding IsDistinct
both_apart [] ys h k away = k
both_apart (x ∷ xs) ys h k away = (both_none x.0 xs ys h.0 away.0, both_apart xs ys h.1 k away.1)

none_behind : (first : List ℕ) (xs ys : Labels) → AllByRecursion (λ y. bytes_eq first y ≡ false) (names (xs ++ ys))
    → AllByRecursion (λ y. bytes_eq first y ≡ false) (names ys)
none_behind first [] ys h = h
none_behind first (x ∷ xs) ys h = none_behind first xs ys h.1

renamed_at : (R : List ℕ × Label → List ℕ × Label) (es : Labels) (i : ℕ) (e : List ℕ × Label) → slice_get es i ≡ Some e
    → slice_get (map R es) i ≡ Some ((R e).0, (R e).1)
renamed_at R es i e at = slice_get-map R es i ∙ ap (option_map R) at

take_renamed : (R : List ℕ × Label → List ℕ × Label) (es : Labels) (i : ℕ) → take i (map R es) ≡ map R (take i es)
take_renamed R [] zero = refl
take_renamed R [] (suc i) = refl
take_renamed R (e ∷ es) zero = refl
take_renamed R (e ∷ es) (suc i) = ap (λ xs. R e ∷ xs) (take_renamed R es i)

-- a renamed label's name is not among the others and those before it
pub absent_among : (R : List ℕ × Label → List ℕ × Label) (old es : Labels) (i : ℕ) (e : List ℕ × Label) → AreApart (old ++ map R es) → slice_get es i ≡ Some e
    → label_named (old ++ map R (take i es)) (R e).0 ≡ None
unfolding IsDistinct
absent_among R [] es i e h at = ap (λ xs. label_named xs (R e).0) (sym (take_renamed R es i)) ∙ absent_before (map R es) i (R e).0 (R e).1 h
    (renamed_at R es i e at)
absent_among R (o ∷ old) es i e h at =
    ap (λ b. cond b (Some o.1) (label_named (old ++ map R (take i es)) (R e).0))
    (swapped o.0 (R e).0 (behind_it o.0 (map R es) i (R e).0 (R e).1 (none_behind o.0 old (map R es) h.0) (renamed_at R es i e at)))
    ∙ absent_among R old es i e h.1 at
