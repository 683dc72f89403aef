-- The lines that a loop over lines has left.
use Rattle.std.proofs.Common.{ℕ, ◌+◌, ◌<◌, ◌≤◌, List, [], ◌∷◌, length, drop, get_or, ap, subst, Bor}
use Rattle.std.proofs.lemmas.List.{at_drop_more, drop_all}
use Rattle.mx_lines.specs.Words.{texts}

-- what stands past the end of the lines
abbrev pub past : Bor (List ℕ)
past = record { ref_ptr = (0, 0); now = [] }

module _ (Left : List (List ℕ) → Type 0) (lines : List (Bor (List ℕ))) (i : ℕ) where
  -- what is said of the lines that are left, by the next one
  pub at_line : i < length lines → Left (texts (drop i lines)) → Left ((get_or lines i past).now ∷ texts (drop (i + 1) lines))
  at_line lt h = subst Left (at_drop_more texts lines i past lt) h

  -- no line is left
  pub past_lines : length lines ≤ i → Left (texts (drop i lines)) → Left []
  past_lines le h = subst Left (ap texts (drop_all i lines le)) h
