-- How many words a layout has.
use Rattle.std.proofs.Common.{◌≡◌, ℕ, suc, ◌+◌, ◌≤◌, List, [], ◌∷◌, length, refl, ap, ◌∙◌, arith, length-append}
use Rattle.std.specs.List.{flat_map}
use Rattle.std.proofs.lemmas.List.{length-map}
use Rattle.mx_source.specs.declared.Statement.{Statement}
use Rattle.mx_source.specs.SourceValue.{SourceValue, IsSource}
use Rattle.mx_blocks.specs.declared.Item.{Item}
use Rattle.mx_validate.specs.Padded.{items_of}
use Rattle.mx_squash.specs.declared.Copied.{Copied}
use Rattle.mx_squash.specs.Copies.{Site}
use Rattle.mx_layout.specs.declared.Layout.{Layout}
use Rattle.mx_layout.specs.Layout.{plan_size, end_of}
use Rattle.mx_code.specs.Codes.{word_of_row}
use Rattle.mx_link.specs.declared.linked.Origin.{Origin}
use Rattle.mx_link.specs.declared.code.Slots.{Slots}
use Rattle.mx_link.specs.Origins.{Filling, origins_from, origins_at, origins_of}
use Rattle.mx_link.specs.Words.{insts_from, insts_of, code_of}
use Rattle.mx_link.specs.Parts.{filling_of, sites_of, link_in, IsLaidOut}

pub length-origins_from : (s : Site) (c : Copied) (p : ℕ) (items : List Item) → length (origins_from s c p items) ≡ length items
length-origins_from s c p [] = refl
length-origins_from s c p (item ∷ items) = ap suc (length-origins_from s c (suc p) items)

pub length-insts_from :
    (link : ℕ → ℕ) (statements : List Statement) (c : Copied) (at : ℕ) (origins : List Origin)
    → length (insts_from link statements c at origins) ≡ length origins
length-insts_from link statements c at [] = refl
length-insts_from link statements c at (o ∷ origins) = ap suc (length-insts_from link statements c (suc at) origins)

-- pieces that are as long as the sites' plans end where the sites do
pieces_end :
    {A : Type 0} (piece : Site → List A) → ((s : Site) → length (piece s) ≡ plan_size s.plan) → (at : ℕ) (all : List Site)
    → at + length (flat_map piece all) ≡ end_of at all
pieces_end piece h at [] = omega arith
pieces_end piece h at (s ∷ all) =
    let rest = pieces_end piece h (at + plan_size s.plan) all in
    let both = length-append (piece s) (flat_map piece all) in
    let own = h s in
    omega arith

pub origins_end : (filling : Filling) (at : ℕ) (all : List Site) → at + length (origins_of filling all) ≡ end_of at all
origins_end filling at all = pieces_end (λ s. origins_at s (filling all s)) (λ s. length-origins_from s (filling all s) 0 (items_of s.plan)) at all

pub code_end :
    (filling : Filling) (link : ℕ → ℕ) (statements : List Statement) (at : ℕ) (all : List Site)
    → at + length (code_of filling link statements all) ≡ end_of at all
code_end filling link statements at all =
    ap (λ n. at + n) (length-map (insts_of filling link statements all) word_of_row)
    ∙ pieces_end (λ s. insts_from link statements (filling all s) s.start (origins_at s (filling all s)))
    (λ s. length-insts_from link statements (filling all s) s.start (origins_at s (filling all s))
    ∙ length-origins_from s (filling all s) 0 (items_of s.plan)) at all

pub few_words :
    (source : SourceValue) (l : Layout) (slots : Slots) → IsSource source → IsLaidOut source l
    → length (code_of (filling_of slots) (link_in l) source.statements (sites_of l)) ≤ 60000
few_words source l slots is h =
    let end = code_end (filling_of slots) (link_in l) source.statements h.place.code (sites_of l) in
    let short = h.short in
    let few = is.few_statements in
    omega arith

pub few_origins :
    (source : SourceValue) (l : Layout) (slots : Slots) → IsSource source → IsLaidOut source l
    → length (origins_of (filling_of slots) (sites_of l)) ≤ 60000
few_origins source l slots is h =
    let end = origins_end (filling_of slots) h.place.code (sites_of l) in
    let short = h.short in
    let few = is.few_statements in
    omega arith
