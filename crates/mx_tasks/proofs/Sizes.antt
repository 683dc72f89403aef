-- How many words a linked source has.
use Rattle.std.proofs.Common.{◌*◌, ◌≤◌, List, length, arith}
use Rattle.mx_isa.specs.declared.Place.{Place}
use Rattle.mx_source.specs.SourceValue.{SourceValue}
use Rattle.mx_validate.specs.Validity.{Valid}
use Rattle.mx_squash.specs.Copies.{Site}
use Rattle.mx_layout.specs.Layout.{IsLayout, blocks_in}
use Rattle.mx_layout.proofs.Sizes.{end_short, covered}
use Rattle.mx_link.specs.Origins.{from_target}
use Rattle.mx_link.specs.Linked.{link_map, linked_code}
use Rattle.mx_link.proofs.Sizes.{code_end}

-- three words a statement
pub few_words : (source : SourceValue) (place : Place) (sites : List Site) → IsLayout Valid source place sites
    → length (linked_code from_target source place sites) ≤ 3 * length source.statements
few_words source place sites h =
    let end = code_end from_target (link_map place sites) source.statements place.code sites in
    let short = end_short place.code sites h.plans in
    let whole = covered source 0 (length source.statements) (blocks_in sites) h.blocks in
    omega (arith, end, short, whole)
