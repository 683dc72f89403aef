-- The links of a linked source are addresses of its code, or the one after it.
use Rattle.std.proofs.Common.{◌≡◌, ℕ, zero, suc, ◌+◌, ◌≤◌, Bool, true, false, cond, List, [], ◌∷◌, length, refl, sym, ap, ◌∙◌, subst, length-append, arith}
use Rattle.std.proofs.lemmas.List.{length-map}
use Rattle.std.specs.Prelude.{All}
use Rattle.std.specs.List.{flat_map}
use Rattle.mx_isa.specs.declared.Inst.{Inst}
use Rattle.mx_code.specs.Codes.{word_of_row}
use Rattle.mx_source.specs.SourceValue.{SourceValue, IsSource}
use Rattle.mx_validate.specs.Padded.{items_of}
use Rattle.mx_squash.specs.Copies.{Site}
use Rattle.mx_layout.specs.Layout.{plan_size, link_of, has_statement}
use Rattle.mx_link.specs.Origins.{Filling, origins_at}
use Rattle.mx_link.specs.Words.{insts_from, insts_of}
use Rattle.mx_link.proofs.Sizes.{length-origins_from, length-insts_from}
use Rattle.mx_link.specs.Linked.{map_from, link_map, links_of, linked_code}
use Rattle.mx_image.specs.Contents.{IsLink, LinksFit}
use Rattle.mx_isa.specs.Board.{board}

-- how many words these plans have
pub total : List Site → ℕ
total [] = 0
total (s ∷ sites) = plan_size s.plan + total sites

flat_count :
    (words : Site → List Inst) → ((s : Site) → length (words s) ≡ plan_size s.plan) → (sites : List Site)
    → length (flat_map words sites) ≡ total sites
unfolding total
flat_count words each [] = refl
flat_count words each (s ∷ sites) =
    length-append (words s) (flat_map words sites) ∙ ap (λ n. n + length (flat_map words sites)) (each s)
    ∙ ap (λ n. plan_size s.plan + n) (flat_count words each sites)

pub code_count : (filling : Filling) (source : SourceValue) (sites : List Site) → length (linked_code filling source board sites) ≡ total sites
code_count filling source sites =
    length-map (insts_of filling (link_map board sites) source.statements sites) word_of_row
    ∙ flat_count (λ s. insts_from (link_map board sites) source.statements (filling sites s) s.start (origins_at s (filling sites s)))
    (λ s. length-insts_from (link_map board sites) source.statements (filling sites s) s.start (origins_at s (filling sites s))
    ∙ length-origins_from s (filling sites s) 0 (items_of s.plan))
    sites

abbrev Between : ℕ → ℕ → ℕ → Type 0
Between low high n = (low ≤ n) × (n ≤ high)

either : (b : Bool) (low high x y : ℕ) → Between low high x → Between low high y → Between low high (cond b x y)
either true low high x y first second = first
either false low high x y first second = second

pub link_between : (at : ℕ) (sites : List Site) (i : ℕ) → Between at (at + total sites) (link_of at sites i)
unfolding total
link_between at [] i = (omega arith, omega arith)
link_between at (s ∷ sites) i =
    let rest = link_between (at + plan_size s.plan) sites i in
    either (has_statement i s.block) at (at + (plan_size s.plan + total sites)) at (link_of (at + plan_size s.plan) sites i)
    (omega arith, omega arith)
    (omega (arith, rest.0), omega (arith, rest.1))

pub links_count : (link : ℕ → ℕ) (i n : ℕ) → length (map_from link i n) ≡ n
links_count link i zero = refl
links_count link i (suc n) = ap suc (links_count link (suc i) n)

links_all : (P : ℕ → Type 0) (link : ℕ → ℕ) → ((j : ℕ) → P (link j)) → (i n : ℕ) → All P (map_from link i n)
links_all P link each i zero k d l = absurd (omega arith)
links_all P link each i (suc n) zero d l = each i
links_all P link each i (suc n) (suc k) d l = links_all P link each (suc i) n k d (omega arith)

pub links_fit :
    (filling : Filling) (source : SourceValue) (sites : List Site) → IsSource source
    → LinksFit (length (linked_code filling source board sites)) (links_of source board sites)
links_fit filling source sites is = record {
  few = (let count = links_count (link_map board sites) 0 (suc (length source.statements)) in let most = is.few_statements in omega arith);
  within = subst (λ (n : ℕ). All (IsLink n) (links_of source board sites)) (sym (code_count filling source sites))
      (links_all (IsLink (total sites)) (link_map board sites) (λ j. link_between 4096 sites j) 0 (suc (length source.statements)));
}
