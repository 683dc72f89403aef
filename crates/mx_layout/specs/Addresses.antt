-- Addresses of blocks of known sizes that stand one directly behind the other, from an address on.
use Rattle.std.specs.Prelude.{ℕ, ◌+◌, List, [], ◌∷◌, ◌++◌, replicate}
use Rattle.mx_blocks.specs.declared.Block.{Block}
use Rattle.mx_blocks.specs.Leaders.{size}

abbrev pub starts_from : ℕ → List ℕ → List ℕ
starts_from at [] = []
starts_from at (n ∷ sizes) = at ∷ starts_from (at + n) sizes

-- for each statement the address at which its block begins, and at last the address after the last word
abbrev pub statement_starts : ℕ → List Block → List ℕ → List ℕ
statement_starts at (block ∷ blocks) (n ∷ sizes) = replicate (size block) at ++ statement_starts (at + n) blocks sizes
statement_starts at _ _ = at ∷ []
