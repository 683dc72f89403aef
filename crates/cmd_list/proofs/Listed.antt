-- What is listed of a linked program.
use Rattle.std.proofs.Common.{◌≡◌, ℕ, List, ap, ◌∙◌}
use Rattle.mx_isa.specs.declared.Place.{Place}
use Rattle.mx_source.specs.SourceValue.{SourceValue}
use Rattle.mx_blocks.specs.declared.Block.{Block}
use Rattle.mx_blocks.specs.declared.Plan.{Plan}
use Rattle.mx_link.specs.declared.linked.Linked.{Linked}
use Rattle.mx_link.specs.declared.linked.Origin.{Origin}
use Rattle.mx_link.specs.Origins.{from_target}
use Rattle.mx_link.specs.Linked.{IsLinked}
use Rattle.cmd_list.specs.Listing.{Parts, listing_text, linked_parts, layout_parts, layout_listing}

-- equal parts make equal records
same_parts : (a b : Parts) → a.code ≡ b.code → a.origin ≡ b.origin → a.links ≡ b.links → a.noops ≡ b.noops → a.copies ≡ b.copies → a.rejected ≡ b.rejected
    → a ≡ b
same_parts a b code origin links noops copies rejected =
    ap (λ (x : List ℕ). record a { code = x }) code
    ∙ ap (λ (x : List Origin). record a { code = b.code; origin = x }) origin
    ∙ ap (λ (x : List ℕ). record a { code = b.code; origin = b.origin; links = x }) links
    ∙ ap (λ (x : ℕ). record a { code = b.code; origin = b.origin; links = b.links; noops = x }) noops
    ∙ ap (λ (x : ℕ). record b { copies = x; rejected = a.rejected }) copies
    ∙ ap (λ (x : ℕ). record b { rejected = x }) rejected

pub listing-linked : (Proposes : Block → Plan → Type 0) (source : SourceValue) (place : Place) (l : Linked) → (k : IsLinked Proposes from_target source place l)
    → l.rejected ≡ 0 → listing_text source (linked_parts l) ≡ layout_listing source place k.sites
unfolding layout_listing
listing-linked Proposes source place l k none =
    ap (listing_text source) (same_parts (linked_parts l) (layout_parts source place k.sites) k.code k.origin k.links k.noops k.copies none)
