-- One list that stands at the beginning of another.
use Rattle.std.specs.Prelude.{◌≡◌, ℕ, List, ◌++◌}

pub record IsPrefix (xs ys : List ℕ) : Type 0 where
  pub rest : List ℕ
  pub whole : ys ≡ xs ++ rest
