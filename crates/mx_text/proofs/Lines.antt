-- Lines of numbers, one after the other.
use Rattle.std.proofs.Common.{◌≡◌, ℕ, ◌+◌, ◌-◌, ◌<◌, suc, List, [], ◌++◌, refl, ap, ◌∙◌, arith}
use Rattle.mx_text.specs.Text.{lines_from}

pub no_lines : (line_of : ℕ → List ℕ) (n : ℕ) → lines_from line_of 0 n ≡ []
unfolding lines_from
no_lines line_of n = refl

one_more : (line_of : ℕ → List ℕ) (count n : ℕ) → lines_from line_of (suc count) n ≡ line_of n ++ lines_from line_of count (n + 1)
unfolding lines_from
one_more line_of count n = refl

pub next_line : (line_of : ℕ → List ℕ) (to n : ℕ) → n < to → lines_from line_of (to - n) n ≡ line_of n ++ lines_from line_of (to - (n + 1)) (n + 1)
next_line line_of to n h =
    let e : to - n ≡ suc (to - (n + 1)) = omega arith in
    ap (λ c. lines_from line_of c n) e ∙ one_more line_of (to - (n + 1)) n
