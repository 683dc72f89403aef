-- The listing of a linked program.
use Rattle.std.specs.Prelude.{ℕ, ◌+◌, List, [], ◌∷◌, ◌++◌, length, codes, slice_index, slice_index_or}
use Rattle.std.specs.Fmt.{decimal}
use Rattle.std.specs.List.{flat_map}
use Rattle.mx_isa.specs.declared.Place.{Place}
use Rattle.mx_source.specs.declared.Label.{Label}
use Rattle.mx_source.specs.declared.Label.TheVariants.{Code, Data}
use Rattle.mx_source.specs.SourceValue.{SourceValue}
use Rattle.mx_squash.specs.Copies.{Site}
use Rattle.mx_link.specs.declared.linked.Linked.{Linked}
use Rattle.mx_link.specs.declared.linked.Origin.{Origin}
use Rattle.mx_link.specs.declared.linked.Origin.TheVariants.{Own, Copy, Pad}
use Rattle.mx_link.specs.Origins.{from_target, origins_of, copies_in}
use Rattle.mx_code.specs.NoOps.{noops_in}
use Rattle.mx_link.specs.Linked.{linked_code, links_of}
use Rattle.mx_text.specs.Text.{word_text, line, named_line, count_line, lines_from}
use Rattle.mx_turn.specs.Handler.{shipped}

-- `ADDRESS WORD KIND`
abbrev pub listed_line : ℕ → ℕ → List ℕ → List ℕ
listed_line address word kind = named_line ((word_text address ++ 32 ∷ []) ++ word_text word) kind

-- the line of a statement, `+` and the line of one that is copied, `-` for a no-op that was put in
abbrev pub kind_text : List ℕ → Origin → List ℕ
kind_text lines (Own i) = decimal (slice_index lines i)
kind_text lines (Copy i) = 43 ∷ decimal (slice_index lines i)
kind_text lines Pad = codes "-"

-- word a of a handler
abbrev pub handler_line : List ℕ → ℕ → List ℕ
handler_line words a = listed_line a (slice_index words a) (codes "h")

-- the words of a handler, from address 0 on
abbrev pub handler_lines : List ℕ → List ℕ
handler_lines words = lines_from (handler_line words) (length words) 0

-- code word k
abbrev pub code_line : List ℕ → List ℕ → List Origin → ℕ → List ℕ
code_line lines code origin k = listed_line (4096 + k) (slice_index code k) (kind_text lines (slice_index_or origin k Pad))

-- the code words, from address 4096 on
abbrev pub code_lines : List ℕ → List ℕ → List Origin → List ℕ
code_lines lines code origin = lines_from (code_line lines code origin) (length code) 0

-- a code label, with the address of its statement
abbrev pub label_line : List ℕ → List ℕ → Label → List ℕ
label_line links name (Code i) = named_line name (word_text (slice_index links i))
label_line links name (Data address) = []

abbrev pub label_lines : List ℕ → List (List ℕ × Label) → List ℕ
label_lines links labels = flat_map (λ p. label_line links p.0 p.1) labels

-- what is listed of a program: its code words and where they come from, the addresses of its statements, and three counts
pub record Parts : Type 0 where
  pub code : List ℕ
  pub origin : List Origin
  pub links : List ℕ
  pub noops : ℕ
  pub copies : ℕ
  pub rejected : ℕ

abbrev pub counts_text : Parts → List ℕ
counts_text p =
    ((count_line (codes "words") (length p.code) ++ count_line (codes "noops") p.noops) ++ count_line (codes "copies") p.copies)
    ++ count_line (codes "rejected") p.rejected

-- the listing of these parts of a program of a source
unfoldable pub listing_text : SourceValue → Parts → List ℕ
listing_text source p =
    (((handler_lines shipped ++ code_lines source.lines p.code p.origin) ++ line (codes "links")) ++ label_lines p.links source.labels) ++ counts_text p

-- what is listed of a linked program
abbrev pub linked_parts : Linked → Parts
linked_parts l = record {
  code = l.image.code.items;
  origin = l.origin.items;
  links = l.links.items;
  noops = l.noops;
  copies = l.copies;
  rejected = l.rejected;
}

-- what is listed of a layout that is linked with copies and of which no proposal was rejected
abbrev pub layout_parts : SourceValue → Place → List Site → Parts
layout_parts source place sites = record {
  code = linked_code from_target source place sites;
  origin = origins_of from_target sites;
  links = links_of source place sites;
  noops = noops_in (linked_code from_target source place sites);
  copies = copies_in (origins_of from_target sites);
  rejected = 0;
}

-- the listing of a layout of a source at a place
unfoldable pub layout_listing : SourceValue → Place → List Site → List ℕ
layout_listing source place sites = listing_text source (layout_parts source place sites)
