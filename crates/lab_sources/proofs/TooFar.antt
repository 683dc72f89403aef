-- A source that is not linked is refused by its first branch that does not reach its target.
use Rattle.std.proofs.Common.{List, ℕ, sym, subst}
use Rattle.mx_isa.specs.Board.{board}
use Rattle.mx_blocks.specs.declared.block.Block.{Block}
use Rattle.mx_blocks.specs.declared.block.Plan.{Plan}
use Rattle.mx_source.specs.SourceValue.{SourceValue}
use Rattle.mx_layout.specs.Overlong.{Overlong, IsOverlong, IsRefusal}
use Rattle.mx_layout.specs.declared.error.LinkError.{LinkError}
use Rattle.mx_layout.specs.declared.error.LinkError.TheVariants as link
use Rattle.lab_failure.specs.declared.failure.LabFailure.{LabFailure}
use Rattle.lab_failure.specs.declared.failure.LabFailure.TheVariants.{Memory, Arguments, Unread, Image, Line, Source, Overlong as TooFar, NoLabel}
use Rattle.lab_sources.specs.Refusals.{Tells, IsUnlinked}

pub too_far : (Proposes : Block → Plan → Type 0) (name : List ℕ) (source : SourceValue) (error : LinkError) (failure : LabFailure)
    → IsRefusal Proposes source board error → Tells name error failure → IsUnlinked name Proposes source failure
too_far P name source (link.Displacement line from to) (TooFar n l f t) refusal (named, lines, froms, tos) = (
  named,
  subst (λ (o : Overlong). IsOverlong P source board o) (λ i. record { line = sym lines i; from = sym froms i; to = sym tos i }) refusal,
)
too_far P name source (link.Displacement line from to) Memory refusal tells = tt
too_far P name source (link.Displacement line from to) (Arguments fault) refusal tells = absurd tells
too_far P name source (link.Displacement line from to) (Unread n kind fault) refusal tells = absurd tells
too_far P name source (link.Displacement line from to) (Image n error) refusal tells = absurd tells
too_far P name source (link.Displacement line from to) (Line n l fault) refusal tells = absurd tells
too_far P name source (link.Displacement line from to) (Source n l fault) refusal tells = absurd tells
too_far P name source (link.Displacement line from to) (NoLabel n label) refusal tells = absurd tells
too_far P name source link.Memory failure refusal tells = subst (IsUnlinked name P source) (sym tells) tt
