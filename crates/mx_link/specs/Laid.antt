-- A source that is laid out at a place, so that it can be linked there.
use Rattle.std.specs.Prelude.{◌≡◌, ℕ, ◌+◌, ◌*◌, ◌≤◌, length, None}
use Rattle.mx_isa.specs.declared.board.TheConstants.{LAST_ADDRESS}
use Rattle.mx_isa.specs.declared.Place.{Place}
use Rattle.mx_source.specs.SourceValue.{SourceValue}
use Rattle.mx_validate.specs.Validity.{Valid}
use Rattle.mx_layout.specs.declared.Layout.{Layout}
use Rattle.mx_layout.specs.Layout.{IsLayout, link_of, end_of}
use Rattle.mx_layout.specs.Overlong.{overlong}
use Rattle.mx_code.specs.NoOps.{noops_in}
use Rattle.mx_link.specs.declared.linked.Linked.{Linked}
use Rattle.mx_link.specs.Origins.{Filling, origins_of, copies_in}
use Rattle.mx_link.specs.Parts.{sites_of, link_in, Reach}
use Rattle.mx_link.specs.Linked.{linked_code, linked_data, links_of}

-- the layout is that of the source at the place, with its link map, and each of its branches reaches its target
pub record IsLaidAt (source : SourceValue) (place : Place) (l : Layout) : Type 0 where
  pub plans : length l.plans.items ≡ length l.blocks.items
  pub starts : length l.starts.items ≡ length l.blocks.items
  pub layout : IsLayout Valid source place (sites_of l)
  pub links_count : length l.links.items ≡ length source.statements + 1
  pub links : (i : ℕ) → i ≤ length source.statements → link_in l i ≡ link_of place.code (sites_of l) i
  pub short : end_of place.code (sites_of l) ≤ place.code + 3 * length source.statements
  pub fits : overlong source place l.blocks.items ≡ None
  pub reach : Reach place (sites_of l)
  pub room : place.code + 3 * length source.statements ≤ LAST_ADDRESS

-- the linked program of a source that is laid out at the place, with these copies
pub record IsLinkedFrom (filling : Filling) (source : SourceValue) (place : Place) (layout : Layout) (l : Linked) : Type 0 where
  pub code : l.image.code.items ≡ linked_code filling source place (sites_of layout)
  pub user_data : l.image.user_data.items ≡ linked_data source place (sites_of layout)
  pub links : l.links.items ≡ links_of source place (sites_of layout)
  pub origin : l.origin.items ≡ origins_of filling (sites_of layout)
  pub noops : l.noops ≡ noops_in l.image.code.items
  pub copies : l.copies ≡ copies_in l.origin.items
  pub proposals : l.proposals ≡ layout.proposals
  pub rejected : l.rejected ≡ layout.rejected
