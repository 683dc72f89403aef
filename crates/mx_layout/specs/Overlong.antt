-- Branches whose displacement does not fit: they are looked for in the layout of padded plans without copies.
use Rattle.std.specs.Prelude.{◌≡◌, ℕ, ◌+◌, ◌-◌, cond, List, [], ◌∷◌, length, slice_index, Option, Some, None}
use Rattle.mx_isa.specs.declared.Place.{Place}
use Rattle.mx_source.specs.SourceValue.{SourceValue}
use Rattle.mx_blocks.specs.declared.Block.{Block}
use Rattle.mx_blocks.specs.declared.Plan.{Plan}
use Rattle.mx_blocks.specs.declared.End.{End}
use Rattle.mx_blocks.specs.declared.End.TheVariants.{Branches}
use Rattle.mx_blocks.specs.Leaders.{size}
use Rattle.mx_validate.specs.Padded.{insts_of, padded_from, padded_place}
use Rattle.mx_validate.specs.Validity.{Valid}
use Rattle.mx_squash.specs.Copies.{Site, reaches}
use Rattle.mx_layout.specs.declared.error.LinkError.{LinkError}
use Rattle.mx_layout.specs.declared.error.LinkError.TheVariants.{Displacement, Memory}
use Rattle.mx_layout.specs.Layout.{IsLayout, has_statement, blocks_in}
use Rattle.mx_layout.specs.Kept.{AreKept}

-- a branch that does not reach its target: its line, its address, and the target's
pub record Overlong : Type 0 where
  pub line : ℕ
  pub from : ℕ
  pub to : ℕ

abbrev pub padded_size : Block → ℕ
padded_size block = length (padded_from 0 (insts_of block))

-- the link map of padded blocks from an address on
abbrev pub padded_link : ℕ → List Block → ℕ → ℕ
padded_link at [] i = at
padded_link at (block ∷ blocks) i = cond (has_statement i block) at (padded_link (at + padded_size block) blocks i)

-- the target of the branch with which a block ends, if it does
abbrev pub branch_target : End → Option ℕ
branch_target (Branches target) = Some target
branch_target _ = None

-- a branch that stands at one address and goes to another, unless it reaches it
abbrev pub unless_reached : ℕ → ℕ → ℕ → Option Overlong
unless_reached line from to = cond (reaches from to) None (Some (record { line = line; from = from; to = to }))

-- the branch to a target at the end of a block that begins at an address, unless it reaches it
abbrev pub overlong_to : SourceValue → (ℕ → ℕ) → ℕ → Block → Option ℕ → Option Overlong
overlong_to source link at block None = None
overlong_to source link at block (Some target) =
    unless_reached (slice_index source.lines (block.first + size block - 1)) (at + padded_place block) (link target)

abbrev pub or_else : Option Overlong → Option Overlong → Option Overlong
or_else None other = other
or_else (Some found) other = Some found

-- the first overlong branch of padded blocks from an address on, in source order
abbrev pub overlong_from : SourceValue → (ℕ → ℕ) → ℕ → List Block → Option Overlong
overlong_from source link at [] = None
overlong_from source link at (block ∷ blocks) =
    or_else (overlong_to source link at block (branch_target block.end)) (overlong_from source link (at + padded_size block) blocks)

-- the first overlong branch of a source with these blocks at a place
abbrev pub overlong : SourceValue → Place → List Block → Option Overlong
overlong source place blocks = overlong_from source (padded_link place.code blocks) place.code blocks

-- the branch that was found is reported; memory may be wanting
abbrev pub IsReported : Option Overlong → LinkError → Type 0
IsReported found (Displacement line from to) = found ≡ Some (record { line = line; from = from; to = to })
IsReported found Memory = Unit {0}

-- the source is laid out and has an overlong branch
pub record IsOverlong (Proposes : Block → Plan → Type 0) (source : SourceValue) (place : Place) (found : Overlong) : Type 0 where
  pub sites : List Site
  pub proposals : List Plan
  pub rejected : ℕ
  pub layout : IsLayout Valid source place sites
  pub kept : AreKept Proposes rejected sites proposals
  pub is : overlong source place (blocks_in sites) ≡ Some found

-- a source is refused by its first overlong branch alone; memory may be wanting
abbrev pub IsRefusal : (Block → Plan → Type 0) → SourceValue → Place → LinkError → Type 0
IsRefusal Proposes source place (Displacement line from to) = IsOverlong Proposes source place (record { line = line; from = from; to = to })
IsRefusal Proposes source place Memory = Unit {0}
