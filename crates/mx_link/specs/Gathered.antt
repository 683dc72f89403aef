-- What is counted at the words of linked code, gathered by the statements that they come from.
use Rattle.std.specs.Prelude.{ℕ, suc, ◌+◌, Bool, false, cond, eqb, List, [], ◌∷◌}
use Rattle.mx_link.specs.declared.linked.Origin.{Origin}
use Rattle.mx_link.specs.declared.linked.Origin.TheVariants.{Own, Copy, Pad}

-- a word is the statement's own or a copy of it
abbrev pub is_of : ℕ → Origin → Bool
is_of i (Own k) = eqb k i
is_of i (Copy k) = eqb k i
is_of i Pad = false

-- what is counted at the words of statement i, of words with these origins that have numbers from n on
abbrev pub gathered : (ℕ → ℕ) → ℕ → ℕ → List Origin → ℕ
gathered count i n [] = 0
gathered count i n (origin ∷ origins) = cond (is_of i origin) (count n) 0 + gathered count i (suc n) origins
