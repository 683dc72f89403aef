-- The links of a linked source are addresses of its code, or the one after it.
use Rattle.std.proofs.Common.{◌≡◌, ℕ, zero, suc, ◌+◌, ◌≤◌, List, [], ◌∷◌, length, refl, sym, ap, ◌∙◌, subst, length-append, arith}
use Rattle.std.proofs.lemmas.List.{length-map}
use Rattle.std.specs.Prelude.{◌<◌, All, slice_index, slice_index_or}
use Rattle.std.specs.List.{flat_map}
use Rattle.mx_isa.specs.Board.{board}
use Rattle.mx_isa.specs.declared.Inst.{Inst}
use Rattle.mx_code.specs.Codes.{word_of_row}
use Rattle.mx_source.specs.SourceValue.{SourceValue, IsSource}
use Rattle.mx_validate.specs.Padded.{items_of}
use Rattle.mx_squash.specs.Copies.{Site}
use Rattle.mx_layout.specs.Layout.{plan_size, end_of, link_of}
use Rattle.mx_layout.proofs.Links.{link_within}
use Rattle.mx_link.specs.Origins.{Filling, origins_at}
use Rattle.mx_link.specs.Words.{insts_from, insts_of}
use Rattle.mx_link.specs.Linked.{map_from, link_map, links_of, linked_code}
use Rattle.mx_link.proofs.Sizes.{length-origins_from, length-insts_from}
use Rattle.law_link.proofs.Results.{link_at}
use Rattle.mx_image.specs.Contents.{IsLink, LinksFit}

-- the words of these sites, which stand from an address on, end where the sites do
flat_end :
    (words : Site → List Inst) → ((s : Site) → length (words s) ≡ plan_size s.plan) → (at : ℕ) (sites : List Site)
    → at + length (flat_map words sites) ≡ end_of at sites
flat_end words each at [] = omega arith
flat_end words each at (s ∷ sites) =
    let both = length-append (words s) (flat_map words sites) in
    let own = each s in
    let rest = flat_end words each (at + plan_size s.plan) sites in
    omega (arith, both, own, rest)

code_end : (filling : Filling) (source : SourceValue) (sites : List Site)
    → 4096 + length (linked_code filling source board sites) ≡ end_of 4096 sites
code_end filling source sites =
    ap (λ n. 4096 + n) (length-map (insts_of filling (link_map board sites) source.statements sites) word_of_row)
    ∙ flat_end (λ s. insts_from (link_map board sites) source.statements (filling sites s) s.start (origins_at s (filling sites s)))
    (λ s. length-insts_from (link_map board sites) source.statements (filling sites s) s.start (origins_at s (filling sites s))
    ∙ length-origins_from s (filling sites s) 0 (items_of s.plan))
    4096 sites

pub in_code : (filling : Filling) (source : SourceValue) (sites : List Site) (j : ℕ)
    → IsLink (length (linked_code filling source board sites)) (link_map board sites j)
in_code filling source sites j =
    let within = link_within 4096 sites j in
    let end = code_end filling source sites in
    (within.0, subst (λ (n : ℕ). link_of 4096 sites j ≤ n) (sym end) within.1)

pub links_count : (link : ℕ → ℕ) (i n : ℕ) → length (map_from link i n) ≡ n
links_count link i zero = refl
links_count link i (suc n) = ap suc (links_count link (suc i) n)

links_all : (P : ℕ → Type 0) (link : ℕ → ℕ) → ((j : ℕ) → P (link j)) → (i n : ℕ) → All P (map_from link i n)
links_all P link each i zero k d l = absurd (omega arith)
links_all P link each i (suc n) zero d l = each i
links_all P link each i (suc n) (suc k) d l = links_all P link each (suc i) n k d (omega arith)

pub links_fit : (filling : Filling) (source : SourceValue) (sites : List Site) → IsSource source
    → LinksFit (length (linked_code filling source board sites)) (links_of source board sites)
links_fit filling source sites is = record {
  few = (let count = links_count (link_map board sites) 0 (suc (length source.statements)) in let most = is.few_statements in omega (arith, count, most));
  within = links_all (IsLink (length (linked_code filling source board sites))) (link_map board sites) (in_code filling source sites)
      0 (suc (length source.statements));
}

-- the link that stands at an index is that of its statement
pub link_there : (source : SourceValue) (sites : List Site) (links : List ℕ) (i : ℕ) → links ≡ links_of source board sites
    → i < length source.statements → slice_index links i ≡ link_map board sites i
link_there source sites links i same less =
    ap (λ (l : List ℕ). slice_index_or l i 0) same
    ∙ link_at (link_map board sites) 0 (suc (length source.statements)) i 0 (omega (arith, less))
    ∙ ap (link_map board sites) (let e : 0 + i ≡ i = omega arith in e)
