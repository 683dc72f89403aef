-- Linked programs.
use Rattle.std.specs.Prelude.{◌≡◌, ℕ, zero, suc, List, [], ◌∷◌, length, None}
use Rattle.mx_isa.specs.declared.Place.{Place}
use Rattle.mx_source.specs.SourceValue.{SourceValue}
use Rattle.mx_blocks.specs.declared.Block.{Block}
use Rattle.mx_blocks.specs.declared.Plan.{Plan}
use Rattle.mx_validate.specs.Validity.{Valid}
use Rattle.mx_squash.specs.Copies.{Site}
use Rattle.mx_layout.specs.Layout.{IsLayout, link_of, blocks_in}
use Rattle.mx_layout.specs.Kept.{AreKept}
use Rattle.mx_layout.specs.Overlong.{overlong}
use Rattle.mx_link.specs.declared.linked.Linked.{Linked}
use Rattle.mx_link.specs.Origins.{Filling, origins_of, copies_in}
use Rattle.mx_code.specs.NoOps.{noops_in}
use Rattle.mx_link.specs.Words.{code_of, words_of}

-- a map at n indices from i on
abbrev pub map_from : (ℕ → ℕ) → ℕ → ℕ → List ℕ
map_from link i zero = []
map_from link i (suc n) = link i ∷ map_from link (suc i) n

-- the link map of a layout of a source at a place
abbrev pub link_map : Place → List Site → ℕ → ℕ
link_map place sites = link_of place.code sites

-- the addresses of all statements, and the one after the last word
abbrev pub links_of : SourceValue → Place → List Site → List ℕ
links_of source place sites = map_from (link_map place sites) 0 (suc (length source.statements))

abbrev pub linked_code : Filling → SourceValue → Place → List Site → List ℕ
linked_code filling source place sites = code_of filling (link_map place sites) source.statements sites

abbrev pub linked_data : SourceValue → Place → List Site → List ℕ
linked_data source place sites = words_of (link_map place sites) source.user_data

-- the source, linked at a place by a layout of plans that are taken for the kept proposals
pub record IsLinked (Proposes : Block → Plan → Type 0) (filling : Filling) (source : SourceValue) (place : Place) (l : Linked) : Type 0 where
  pub sites : List Site
  pub layout : IsLayout Valid source place sites
  pub kept : AreKept Proposes l.rejected sites l.proposals.items
  pub reach : overlong source place (blocks_in sites) ≡ None
  pub code : l.image.code.items ≡ linked_code filling source place sites
  pub user_data : l.image.user_data.items ≡ linked_data source place sites
  pub links : l.links.items ≡ links_of source place sites
  pub origin : l.origin.items ≡ origins_of filling sites
  pub noops : l.noops ≡ noops_in (linked_code filling source place sites)
  pub copies : l.copies ≡ copies_in (origins_of filling sites)
