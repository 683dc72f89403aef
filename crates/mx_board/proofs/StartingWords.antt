-- The words with which a board begins.
use Rattle.std.proofs.Common.{◌≡◌, ℕ, ◌+◌, ◌-◌, ◌<◌, ◌≤◌, List, [], ◌∷◌, ◌++◌, zero, suc, refl, ◌∙◌, length, get_or, take, replicate, cond, leb, arith}
use Rattle.std.proofs.lemmas.Bool.Decides.{nat_tests}
use Rattle.std.proofs.lemmas.Grind.{common_steps}

-- zeros read 0 everywhere
zeros_at : (n a : ℕ) → get_or {A = ℕ} (replicate n 0) a 0 ≡ 0
zeros_at n a = grind (arith, common_steps)

-- a list and zeros after it read as the list
ended_at : (n : ℕ) (d : List ℕ) (a : ℕ) → get_or (d ++ replicate n 0) a 0 ≡ get_or d a 0
ended_at n [] a = zeros_at n a
ended_at n (x ∷ d) zero = refl
ended_at n (x ∷ d) (suc a) = ended_at n d a

-- zeros and a list after them
before : (low : ℕ) (d : List ℕ) (a : ℕ) → a < low → get_or (replicate low 0 ++ d) a 0 ≡ 0
before low d a h = grind (arith, common_steps)

behind : (low : ℕ) (d : List ℕ) (a : ℕ) → low ≤ a → get_or (replicate low 0 ++ d) a 0 ≡ get_or d (a - low) 0
behind low d a h = grind (arith, common_steps)

begun_at : (low : ℕ) (d : List ℕ) (a : ℕ) → get_or (replicate low 0 ++ d) a 0 ≡ cond (leb low a) (get_or d (a - low) 0) 0
begun_at low d a = grind (arith, nat_tests, before, behind)

-- zeros, a list and more zeros, read at any place
padded_at : (low n : ℕ) (d : List ℕ) (a : ℕ) → get_or ((replicate low 0 ++ d) ++ replicate n 0) a 0 ≡ cond (leb low a) (get_or d (a - low) 0) 0
padded_at low n d a = ended_at n (replicate low 0 ++ d) a ∙ begun_at low d a

-- the same, as the list is made
pub words_made : (low all : ℕ) (d none zeros begun whole : List ℕ) (n m : ℕ) → none ≡ [] → n ≡ 0 → zeros ≡ take low none ++ replicate (low - n) 0
    → begun ≡ zeros ++ d → m ≡ low + length d → whole ≡ take all begun ++ replicate (all - m) 0 → low + length d ≤ all → (a : ℕ)
    → get_or whole a 0 ≡ cond (leb low a) (get_or d (a - low) 0) 0
words_made low all d none zeros begun whole n m none_is n_is e f m_is g fits a =
    let zeros_are : zeros ≡ replicate low 0 = grind (arith, common_steps) in
    let short : length begun ≤ all = grind (arith, common_steps) in
    let begun_is : take all begun ≡ begun = grind (arith, common_steps) in
    let whole_is : whole ≡ (replicate low 0 ++ d) ++ replicate (all - m) 0 = cc in
    rw whole_is (padded_at low (all - m) d a)
