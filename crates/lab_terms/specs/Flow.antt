-- Where a statement may go on.
use Rattle.std.specs.Prelude.{◌≡◌, ◌⊎◌, ℕ, ◌+◌, ◌-◌, ◌^◌, ◌<◌, ◌≤◌, min, Bool, true, false, cond, eqb, List, length, Option, Some, None, IfSome}
use Rattle.std.specs.Prelude.{count_by, Contains, slice_get, slice_index_or}
use Rattle.mx_isa.specs.declared.inst.Cond.{Cond}
use Rattle.mx_isa.specs.declared.inst.Cond.TheVariants.{Eq, Ge, Hs}
use Rattle.mx_source.specs.declared.statement.Statement.{Statement}
use Rattle.mx_source.specs.declared.statement.Statement.TheVariants.{Plain, LaCode, Branch, Call, CallReg, JumpReg, Halt}
use Rattle.mx_source.specs.declared.statement.Value.{Value}
use Rattle.mx_source.specs.declared.statement.Value.TheVariants.{Code}
use Rattle.mx_source.specs.SourceValue.{SourceValue}
use Rattle.lab_terms.specs.declared.reach.Ways.{Ways}

-- whether a condition holds of a word and itself
abbrev pub holds_of_same : Cond → Bool
holds_of_same Eq = true
holds_of_same Ge = true
holds_of_same Hs = true
holds_of_same _ = false

-- a branch that compares a register with itself always goes one way
abbrev pub may_go_on : ℕ → ℕ → Cond → Bool
may_go_on a b c = cond (eqb a b) (cond (holds_of_same c) false true) true

abbrev pub may_be_taken : ℕ → ℕ → Cond → Bool
may_be_taken a b c = cond (eqb a b) (holds_of_same c) true

-- a call comes back
abbrev pub ways : Statement → Ways
ways (Plain i) = record { on = true; target = None }
ways (LaCode d t) = record { on = true; target = None }
ways (Branch a b c t) = record { on = may_go_on a b c; target = cond (may_be_taken a b c) (Some t) None }
ways (Call d t) = record { on = true; target = Some t }
ways (CallReg a d) = record { on = true; target = None }
ways (JumpReg a) = record { on = false; target = None }
ways Halt = record { on = false; target = None }

-- the place that a statement makes, to which a jump by a register may come later
abbrev pub made_by : Statement → Option ℕ
made_by (LaCode d t) = Some t
made_by _ = None

-- the statement at the code address that a data word is
abbrev pub code_of : Value → Option ℕ
code_of (Code index) = Some index
code_of _ = None

-- a code address among data words
abbrev pub IsAmongWords : List Value → ℕ → Type 0
IsAmongWords words index = (k : ℕ) × (slice_get words k ≡ Some (Code index))

-- the statement of this index was come to, if there is one
abbrev pub IsSeen : List Bool → ℕ → Type 0
IsSeen seen index = index < length seen → slice_index_or seen index false ≡ true

-- what was come to before still is
abbrev pub StaySeen : List Bool → List Bool → Type 0
StaySeen old new = (index : ℕ) → slice_index_or old index false ≡ true → slice_index_or new index false ≡ true

-- a statement was followed: wherever a run may go from it was come to, and the place that it makes
pub record IsFollowed (seen : List Bool) (index : ℕ) (s : Statement) : Type 0 where
  pub on : (ways s).on ≡ true → index + 1 < 2 ^ 32 → IsSeen seen (index + 1)
  pub target : IfSome (ways s).target (IsSeen seen)
  pub made : IfSome (made_by s) (IsSeen seen)

-- a set of statements that a run does not leave: the first one is in it, those at code addresses among the data, and with each one those
-- that it may go on to, and the one whose code address it makes
pub record IsClosed (source : SourceValue) (seen : List Bool) : Type 0 where
  pub each : length seen ≡ length source.statements
  pub first : IsSeen seen 0
  pub words : (k index : ℕ) → slice_get source.user_data k ≡ Some (Code index) → IsSeen seen index
  pub followed : (i : ℕ) (s : Statement) → slice_index_or seen i false ≡ true → slice_get source.statements i ≡ Some s → IsFollowed seen i s

-- the smallest of these sets
pub record AreReached (source : SourceValue) (seen : List Bool) : Type 0 where
  pub closed : IsClosed source seen
  pub least : (other : List Bool) → IsClosed source other → StaySeen seen other

-- the statements that were come to, in the order in which this happened, each once
pub record IsOrder (seen : List Bool) (order : List ℕ) : Type 0 where
  pub count : length order ≡ count_by (λ b. b) seen
  pub sound : (k : ℕ) → k < length order → slice_index_or seen (slice_index_or order k 0) false ≡ true
  pub complete : (i : ℕ) → slice_index_or seen i false ≡ true → Contains order i

-- more statements were come to, all of this kind
pub record HasCome (kind : ℕ → Type 0) (seen : List Bool) (order : List ℕ) (seen2 : List Bool) (order2 : List ℕ) : Type 0 where
  pub size : length seen2 ≡ length seen
  pub stays : StaySeen seen seen2
  pub newly : (i : ℕ) → slice_index_or seen2 i false ≡ true → (slice_index_or seen i false ≡ true) ⊎ kind i
  pub kept : (k : ℕ) → k < length order → slice_index_or order2 k 0 ≡ slice_index_or order k 0
  pub longer : length order ≤ length order2
  pub once : IsOrder seen order → IsOrder seen2 order2

-- a run may come to it after a statement, at once or by the code address that the statement makes
abbrev pub MayCome : ℕ → Statement → ℕ → Type 0
MayCome index s i = (((ways s).on ≡ true) × (i ≡ min (index + 1) (2 ^ 32 - 1))) ⊎ (((ways s).target ≡ Some i) ⊎ (made_by s ≡ Some i))

-- a walk: it has begun, has followed the first n statements that it came to, and has come to none that it need not
pub record IsWalk (source : SourceValue) (seen : List Bool) (order : List ℕ) (n : ℕ) : Type 0 where
  pub each : length seen ≡ length source.statements
  pub once : IsOrder seen order
  pub first : IsSeen seen 0
  pub words : (k index : ℕ) → slice_get source.user_data k ≡ Some (Code index) → IsSeen seen index
  pub followed : (k : ℕ) (s : Statement) → k < n → k < length order
      → slice_get source.statements (slice_index_or order k 0) ≡ Some s → IsFollowed seen (slice_index_or order k 0) s
  pub least : (other : List Bool) → IsClosed source other → StaySeen seen other
