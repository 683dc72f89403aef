-- Two linked programs in one image.
use Rattle.std.specs.Prelude.{◌≡◌, ℕ, ◌≤◌, List, length, None, ◌⊎◌}
use Rattle.mx_isa.specs.declared.Place.{Place}
use Rattle.mx_source.specs.SourceValue.{SourceValue}
use Rattle.mx_blocks.specs.declared.Block.{Block}
use Rattle.mx_blocks.specs.declared.Plan.{Plan}
use Rattle.mx_validate.specs.Validity.{Valid}
use Rattle.mx_squash.specs.Copies.{Site}
use Rattle.mx_layout.specs.Layout.{IsLayout, blocks_in}
use Rattle.mx_layout.specs.Kept.{AreKept}
use Rattle.mx_layout.specs.Overlong.{Overlong, overlong, IsOverlong}
use Rattle.mx_link.specs.Origins.{from_target}
use Rattle.mx_link.specs.Linked.{links_of, linked_code, linked_data}
use Rattle.mx_tasks.specs.Images.{shared_code, shared_data}
use Rattle.mx_tasks.specs.Places.{lower, upper}
use Rattle.mx_tasks.specs.declared.sharing.Shared.{Shared}
use Rattle.mx_tasks.specs.declared.sharing.ShareError.{ShareError}
use Rattle.mx_tasks.specs.declared.sharing.ShareError.TheVariants.{Displacement, Memory}

-- a source, laid out at a place by plans that are taken for the kept proposals, with branches that reach their targets
pub record IsPlaced (Proposes : Block → Plan → Type 0) (source : SourceValue) (place : Place) (proposals : List Plan) : Type 0 where
  pub sites : List Site
  pub layout : IsLayout Valid source place sites
  pub rejected : ℕ
  pub kept : AreKept Proposes rejected sites proposals
  pub reach : overlong source place (blocks_in sites) ≡ None

-- both sources are linked, each at its place, and the image has the code and the data words of both
pub record IsShared (Proposes : Block → Plan → Type 0) (first second : SourceValue) (s : Shared) : Type 0 where
  pub at_lower : IsPlaced Proposes first lower s.first_proposals.items
  pub at_upper : IsPlaced Proposes second upper s.second_proposals.items
  pub first_links : s.first_links.items ≡ links_of first lower at_lower.sites
  pub second_links : s.second_links.items ≡ links_of second upper at_upper.sites
  pub code : s.image.code.items ≡ shared_code (linked_code from_target first lower at_lower.sites) (linked_code from_target second upper at_upper.sites)
  pub user_data : s.image.user_data.items ≡ shared_data (linked_data first lower at_lower.sites) (linked_data second upper at_upper.sites)

-- two sources are refused by the first overlong branch of the first, or, where that has none, of the second; memory may be wanting
abbrev pub IsShareRefusal : (Block → Plan → Type 0) → SourceValue → SourceValue → ShareError → Type 0
IsShareRefusal Proposes first second (Displacement program line from to) =
    ((program ≡ 1) × IsOverlong Proposes first lower (record { line = line; from = from; to = to }))
    ⊎ ((program ≡ 2) × ((proposals : List Plan) × IsPlaced Proposes first lower proposals)
    × IsOverlong Proposes second upper (record { line = line; from = from; to = to }))
IsShareRefusal Proposes first second Memory = Unit {0}

-- But none of their branches is overlong: 10,000 statements are 30,000 words at most, and a branch reaches further.
abbrev pub ShortSourcesReach : (Block → Plan → Type 0) → Type 0
ShortSourcesReach Proposes =
    (source : SourceValue) (place : Place) (found : Overlong) → length source.statements ≤ 10000 → ¬ IsOverlong Proposes source place found
