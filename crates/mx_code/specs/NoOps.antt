-- The words that do nothing.
use Rattle.std.specs.Prelude.{ℕ, ◌==◌, List, length}
use Rattle.std.specs.List.{filter}
use Rattle.mx_code.specs.declared.no_op.TheConstants.{NO_OP}

-- how many code words are the no-op
abbrev pub noops_in : List ℕ → ℕ
noops_in code = length (filter (λ w. w == NO_OP) code)
