-- A loop that appends a line for each number.
use Rattle.std.proofs.Common.{◌≡◌, ℕ, ◌+◌, ◌-◌, ◌<◌, ◌≤◌, List, [], ◌++◌, ap, sym, ◌∙◌, append_assoc, append-nil, arith}
use Rattle.mx_text.specs.Text.{lines_from}
use Rattle.mx_text.proofs.Lines.{next_line, no_lines}

module _ (line_of : ℕ → List ℕ) (text : List ℕ) {all : List ℕ} (to n : ℕ) (so_far : text ++ lines_from line_of (to - n) n ≡ all) where
  pub line_appended : {new : List ℕ} → n < to → new ≡ text ++ line_of n → new ++ lines_from line_of (to - (n + 1)) (n + 1) ≡ all
  line_appended lt added =
      let rest = lines_from line_of (to - (n + 1)) (n + 1) in
      ap (λ t. t ++ rest) added ∙ append_assoc text (line_of n) rest ∙ ap (λ r. text ++ r) (sym (next_line line_of to n lt)) ∙ so_far

  pub all_appended : to ≤ n → text ≡ all
  all_appended le =
      let last : to - n ≡ 0 = omega arith in
      let none : lines_from line_of (to - n) n ≡ [] = ap (λ c. lines_from line_of c n) last ∙ no_lines line_of n in
      sym (append-nil text) ∙ ap (λ r. text ++ r) (sym none) ∙ so_far
