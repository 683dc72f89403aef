-- Branches that go to a statement close by.
use Rattle.std.specs.Prelude.{◌≡◌, ℕ, ◌+◌, ◌≤◌, List, Some, slice_get}
use Rattle.mx_source.specs.declared.statement.Statement.{Statement}
use Rattle.mx_source.specs.declared.statement.Statement.TheVariants.{Branch}

-- a branch at this index goes at most two statements forwards or backwards
abbrev pub IsNear : ℕ → Statement → Type 0
IsNear i (Branch a b condition target) = (target ≤ i + 2) × (i ≤ target + 2)
IsNear i _ = Unit {0}

abbrev pub AllNear : List Statement → Type 0
AllNear statements = (i : ℕ) (s : Statement) → slice_get statements i ≡ Some s → IsNear i s
