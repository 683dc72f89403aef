-- Keys that are numbers of parts.
use Rattle.std.proofs.Common.{◌≡◌, ℕ, ◌<◌, ◌≤◌, List, [], ◌∷◌, ◌++◌, Option, Some, All, subst, sym, arith}
use Rattle.std.specs.Option.{IfSome}
use Rattle.std.proofs.lemmas.List.Elements.{All-push}
use Rattle.lab_costs.specs.Rows.{AreBelow}

-- one more key, where there may be more parts now
pub keys_more : (keys new : List ℕ) (key n m : ℕ) → new ≡ keys ++ key ∷ [] → AreBelow keys n → n ≤ m → key < m → AreBelow new m
keys_more keys new key n m e h le l =
    subst (λ xs. All (λ key. key < m) xs) (sym e)
    (All-push (λ key. key < m) keys key (λ i d within. let below = h i d within in omega (arith, below, le)) l)

-- the same of the numbers that a map holds
pub numbers_more : {K : Type 0} (es new : List (K × ℕ)) (k : K) (v n m : ℕ) → new ≡ es ++ (k, v) ∷ []
    → All (λ e. e.1 < n) es → n ≤ m → v < m → All (λ e. e.1 < m) new
numbers_more es new k v n m e h le l =
    subst (λ xs. All (λ e. e.1 < m) xs) (sym e)
    (All-push (λ e. e.1 < m) es (k, v) (λ i d within. let below = h i d within in omega (arith, below, le)) l)

pub found_below : (n m : ℕ) (found : Option ℕ) → Some m ≡ found → IfSome found (λ k. k < n) → m < n
found_below n m found e h = subst (λ r. IfSome r (λ k. k < n)) (sym e) h
