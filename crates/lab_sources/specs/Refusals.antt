-- How a command fails where a source is not linked.
use Rattle.std.specs.Prelude.{◌≡◌, ℕ, List}
use Rattle.mx_isa.specs.Board.{board}
use Rattle.mx_blocks.specs.declared.block.Block.{Block}
use Rattle.mx_blocks.specs.declared.block.Plan.{Plan}
use Rattle.mx_source.specs.SourceValue.{SourceValue}
use Rattle.mx_layout.specs.Overlong.{IsOverlong}
use Rattle.mx_layout.specs.declared.error.LinkError.{LinkError}
use Rattle.mx_layout.specs.declared.error.LinkError.TheVariants as link
use Rattle.mx_plans.specs.Files.{LineSaid, marks_of}
use Rattle.mx_plans.specs.Says.{IsProposed}
use Rattle.lab_failure.specs.declared.failure.LabFailure.{LabFailure}
use Rattle.lab_failure.specs.declared.failure.LabFailure.TheVariants.{Memory, Overlong}

-- the failure names the source, and the branch that does not reach its target
abbrev pub Tells : List ℕ → LinkError → LabFailure → Type 0
Tells name (link.Displacement line from to) (Overlong n l f t) = (n.now ≡ name) × (l ≡ line) × (f ≡ from) × (t ≡ to)
Tells name (link.Displacement line from to) _ = ⊥
Tells name link.Memory failure = failure ≡ Memory

-- the failure names the source and its first branch that does not reach its target, or memory ran out
abbrev pub IsUnlinked : List ℕ → (Block → Plan → Type 0) → SourceValue → LabFailure → Type 0
IsUnlinked name Proposes source (Overlong n line from to) =
    (n.now ≡ name) × IsOverlong Proposes source board (record { line = line; from = from; to = to })
IsUnlinked name Proposes source Memory = Unit {0}
IsUnlinked name Proposes source _ = ⊥

-- so it fails by the plans that the lines of a file say
abbrev pub IsTooFar : List ℕ → SourceValue → List LineSaid → LabFailure → Type 0
IsTooFar name source lines = IsUnlinked name (IsProposed source (marks_of lines)) source
