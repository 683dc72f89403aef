-- One more byte over others.
use Rattle.std.proofs.Common.{◌≡◌, ℕ, zero, suc, ◌+◌, ◌<◌, List, [], ◌∷◌, ◌++◌, length, take, drop, set, get_or, refl, sym, ap, ◌∙◌, arith, subst}
use Rattle.std.proofs.lemmas.List.{take_more, length-take-le}
use Rattle.cc_emit.specs.Images.{overlay}

-- bytes over those from a place to before another
abbrev over : ℕ → ℕ → List ℕ → List ℕ → List ℕ
over at end new old = take (length old) (take at old ++ (new ++ drop end old))

at_front : (xs old : List ℕ) (b : ℕ) → set (over 0 (length xs) xs old) (length xs) b ≡ over 0 (suc (length xs)) (xs ++ b ∷ []) old
at_front [] [] b = refl
at_front [] (o ∷ old) b = refl
at_front (x ∷ xs) [] b = refl
at_front (x ∷ xs) (o ∷ old) b = ap (λ t. x ∷ t) (at_front xs old b)

over_more : (at end : ℕ) (xs old : List ℕ) (b : ℕ) → end ≡ at + length xs → set (over at end xs old) end b ≡ over at (suc end) (xs ++ b ∷ []) old
over_more zero end xs old b e =
    let n : length xs ≡ end = omega arith in subst (λ k. set (over 0 k xs old) k b ≡ over 0 (suc k) (xs ++ b ∷ []) old) n (at_front xs old b)
over_more (suc at) end xs [] b e = refl
over_more (suc at) zero xs (o ∷ old) b e = absurd (omega arith)
over_more (suc at) (suc end) xs (o ∷ old) b e = ap (λ t. o ∷ t) (over_more at end xs old b (omega arith))

pub overlay_step : (at i : ℕ) (new old before after : List ℕ) → i < length new → before ≡ overlay at (take i new) old
    → after ≡ set before (at + i) (get_or new i 0) → after ≡ overlay at (take (i + 1) new) old
overlay_step at i new old before after h e s =
    let b = get_or new i 0 in
    let n : length (take i new) ≡ i = length-take-le i new (omega arith) in
    let m : length (take (i + 1) new) ≡ i + 1 = length-take-le (i + 1) new (omega arith) in
    let here : at + length (take i new) ≡ at + i = omega arith in
    let there : suc (at + i) ≡ at + length (take (i + 1) new) = omega arith in
    s
    ∙ ap (λ t. set t (at + i) b) e
    ∙ ap (λ k. set (over at k (take i new) old) (at + i) b) here
    ∙ over_more at (at + i) (take i new) old b (sym here)
    ∙ ap (λ t. over at (suc (at + i)) t old) (sym (take_more new i 0 h))
    ∙ ap (λ k. over at k (take (i + 1) new) old) there
