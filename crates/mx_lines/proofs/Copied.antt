-- Labels that are entered once more, in order.
use Rattle.std.proofs.Common.{◌≡◌, ℕ, suc, zero, Bool, false, true, List, [], ◌∷◌, map, take, cond, Some, None, refl, ap, sym, ◌∙◌}
use Rattle.std.specs.List.{IsDistinct, AllByRecursion, slice_get}
use Rattle.std.specs.Str.{bytes_eq}
use Rattle.std.specs.Option.{option_map}
use Rattle.std.proofs.lemmas.Option.{slice_get-map}
use Rattle.mx_source.specs.declared.name.Name.{Name}
use Rattle.std.proofs.lemmas.Slice.Eq.{bytes_eq-Decides}
use Rattle.mx_source.specs.declared.statement.Label.{Label}
use Rattle.mx_source.specs.Names.{name_bytes, named_labels, AreApart}
use Rattle.mx_lines.specs.Instructions.{Labels}
use Rattle.mx_lines.specs.Operands.{label_named}

swap_by : (x y : List ℕ) (r : Bool) → (r ≡ true → y ≡ x) → (x ≡ y → ⊥) → r ≡ false
swap_by x y true f g = absurd (g (sym (f refl)))
swap_by x y false f g = refl

differ : (x y : List ℕ) (r : Bool) → (x ≡ y → r ≡ true) → r ≡ false → x ≡ y → ⊥
differ x y true f h e = cc
differ x y false f h e = let k = f e in cc

-- names that differ do so from either side
pub swapped : (x y : List ℕ) → bytes_eq x y ≡ false → bytes_eq y x ≡ false
swapped x y h = swap_by x y (bytes_eq y x) (bytes_eq-Decides y x).0 (differ x y (bytes_eq x y) (bytes_eq-Decides x y).1 h)

pub behind_it : (first : List ℕ) (es : Labels) (i : ℕ) (n : List ℕ) (l : Label)
    → AllByRecursion (λ y. bytes_eq first y ≡ false) (map (λ (p : List ℕ × Label). p.0) es)
    → slice_get es i ≡ Some (n, l) → bytes_eq first n ≡ false
behind_it first [] i n l h at = cc
behind_it first (e ∷ es) zero n l h at = let q : e ≡ (n, l) = cc in ap (λ (p : List ℕ × Label). bytes_eq first p.0) (sym q) ∙ h.0
behind_it first (e ∷ es) (suc i) n l h at = behind_it first es i n l h.1 at

-- a label's name is not among those before it
pub absent_before : (es : Labels) (i : ℕ) (n : List ℕ) (l : Label) → AreApart es → slice_get es i ≡ Some (n, l) → label_named (take i es) n ≡ None
unfolding IsDistinct
absent_before [] zero n l h at = refl
absent_before [] (suc i) n l h at = refl
absent_before (e ∷ es) zero n l h at = refl
absent_before (e ∷ es) (suc i) n l h at =
    ap (λ b. cond b (Some e.1) (label_named (take i es) n)) (swapped e.0 n (behind_it e.0 es i n l h.0 at)) ∙ absent_before es i n l h.1 at

-- the label at an index, by the bytes of its name
pub named_at : (es : List (Name × Label)) (i : ℕ) (key : Name) (n : List ℕ) (l : Label) → slice_get es i ≡ Some (key, l) → n ≡ name_bytes key
    → slice_get (named_labels es) i ≡ Some (n, l)
named_at es i key n l at is =
    slice_get-map (λ p. (name_bytes p.0, p.1)) es i
    ∙ ap (option_map (λ p. (name_bytes p.0, p.1))) at
    ∙ ap (λ b. Some (b, l)) (sym is)
