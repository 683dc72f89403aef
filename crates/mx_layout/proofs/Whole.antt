-- The layout of blocks with their plans, starts and links.
use Rattle.std.proofs.Common.{◌≡◌, ℕ, ◌+◌, ◌*◌, ◌≤◌, List, length, map, sum, sum_by, slice_index, sym, ap, ◌∙◌, subst, arith}
use Rattle.std.proofs.lemmas.List.{length-map}
use Rattle.mx_isa.specs.declared.Place.{Place}
use Rattle.mx_source.specs.SourceValue.{SourceValue}
use Rattle.mx_blocks.specs.declared.block.Block.{Block}
use Rattle.mx_blocks.specs.declared.block.Plan.{Plan}
use Rattle.mx_blocks.specs.Leaders.{AreBlocks, size}
use Rattle.mx_validate.specs.Validity.{Valid}
use Rattle.mx_squash.specs.Copies.{Site, sites}
use Rattle.mx_layout.specs.declared.choosing.Choices.{Choices}
use Rattle.mx_layout.specs.declared.error.LinkError.{LinkError}
use Rattle.mx_layout.specs.declared.error.LinkError.TheVariants.{Displacement, Memory}
use Rattle.mx_layout.specs.Layout.{IsLayout, plan_size, end_of, blocks_in, link_of}
use Rattle.mx_layout.specs.Kept.{AreKept}
use Rattle.mx_layout.specs.Overlong.{padded_size, padded_link, overlong, IsReported, IsRefusal}
use Rattle.mx_layout.specs.Addresses.{starts_from, statement_starts}
use Rattle.mx_layout.proofs.Sited.{link_of-sites, padded_link-sizes, blocks_in-sites, length-starts, starts_stand, end_of-sites, length-links, links_hold}
use Rattle.mx_layout.proofs.Taken.{AreTaken, kept_valid}
use Rattle.mx_layout.proofs.Sizes.{AreValid, padded_sizes_short, end_short, covered}

-- blocks with the plans that are taken for them
pub record Taken (Proposes : Block → Plan → Type 0) (source : SourceValue) (blocks : List Block) (plans proposals : List Plan)
    (rejected : ℕ) : Type 0 where
  pub all : AreBlocks source blocks
  pub count : length plans ≡ length blocks
  pub taken : AreTaken Proposes rejected blocks plans proposals

abbrev pub starts_at : ℕ → List Plan → List ℕ
starts_at at plans = starts_from at (map plan_size plans)

pub starts_count : (at : ℕ) (blocks : List Block) (plans : List Plan) → length plans ≡ length blocks → length (starts_at at plans) ≡ length blocks
starts_count at blocks plans e = length-starts at (map plan_size plans) ∙ length-map plans plan_size ∙ e

abbrev pub sites_at : ℕ → List Block → List Plan → List Site
sites_at at blocks plans = sites blocks plans (starts_at at plans)

pub kept :
    (Proposes : Block → Plan → Type 0) (source : SourceValue) (blocks : List Block) (plans proposals : List Plan) (rejected at : ℕ)
    → Taken Proposes source blocks plans proposals rejected → AreKept Proposes rejected (sites_at at blocks plans) proposals
kept Proposes source blocks plans proposals rejected at t = t.taken (starts_at at plans) (starts_count at blocks plans t.count)

pub valid :
    (Proposes : Block → Plan → Type 0) (source : SourceValue) (blocks : List Block) (plans proposals : List Plan) (rejected at : ℕ)
    → Taken Proposes source blocks plans proposals rejected → AreValid (sites_at at blocks plans)
valid Proposes source blocks plans proposals rejected at t =
    kept_valid Proposes rejected (sites_at at blocks plans) proposals (kept Proposes source blocks plans proposals rejected at t)

pub blocks_same : (at : ℕ) (blocks : List Block) (plans : List Plan) → length plans ≡ length blocks → blocks_in (sites_at at blocks plans) ≡ blocks
blocks_same at blocks plans e = blocks_in-sites blocks plans (starts_at at plans) e (starts_count at blocks plans e)

pub layout :
    (Proposes : Block → Plan → Type 0) (source : SourceValue) (place : Place) (blocks : List Block) (plans proposals : List Plan) (rejected : ℕ)
    → Taken Proposes source blocks plans proposals rejected → IsLayout Valid source place (sites_at place.code blocks plans)
layout Proposes source place blocks plans proposals rejected t = record {
  blocks = subst (λ (l : List Block). AreBlocks source l) (sym (blocks_same place.code blocks plans t.count)) t.all;
  stand = starts_stand place.code blocks plans t.count;
  plans = valid Proposes source blocks plans proposals rejected place.code t;
}

pub short :
    (Proposes : Block → Plan → Type 0) (source : SourceValue) (blocks : List Block) (plans proposals : List Plan) (rejected at : ℕ)
    → Taken Proposes source blocks plans proposals rejected → end_of at (sites_at at blocks plans) ≤ at + 3 * length source.statements
short Proposes source blocks plans proposals rejected at t =
    let high = end_short at (sites_at at blocks plans) (valid Proposes source blocks plans proposals rejected at t) in
    let same : sum_by size (blocks_in (sites_at at blocks plans)) ≡ sum_by size blocks = ap (sum_by size) (blocks_same at blocks plans t.count) in
    let all = covered source 0 (length source.statements) blocks t.all in
    omega arith

-- the plans have room
pub plans_room :
    (Proposes : Block → Plan → Type 0) (source : SourceValue) (blocks : List Block) (plans proposals : List Plan) (rejected at : ℕ)
    → Taken Proposes source blocks plans proposals rejected → at + sum (map plan_size plans) ≤ at + 3 * length source.statements
plans_room Proposes source blocks plans proposals rejected at t =
    let high = short Proposes source blocks plans proposals rejected at t in
    let same = end_of-sites at blocks plans (starts_at at plans) t.count (starts_count at blocks plans t.count) in
    omega arith

-- and the padded plans too
pub padded_room : (source : SourceValue) (blocks : List Block) → AreBlocks source blocks → sum (map padded_size blocks) ≤ 3 * length source.statements
padded_room source blocks h =
    let high = padded_sizes_short blocks in
    let all = covered source 0 (length source.statements) blocks h in
    omega arith

pub links_count :
    (source : SourceValue) (blocks : List Block) (sizes : List ℕ) (at : ℕ) → AreBlocks source blocks → length sizes ≡ length blocks
    → length (statement_starts at blocks sizes) ≡ length source.statements + 1
links_count source blocks sizes at h e = let count = length-links source 0 (length source.statements) at blocks sizes h e in omega arith

pub links_same :
    (source : SourceValue) (blocks : List Block) (plans : List Plan) (at i : ℕ) → AreBlocks source blocks → length plans ≡ length blocks
    → i ≤ length source.statements → slice_index (statement_starts at blocks (map plan_size plans)) i ≡ link_of at (sites_at at blocks plans) i
links_same source blocks plans at i h e l =
    links_hold source 0 (length source.statements) at blocks (map plan_size plans) i i h (length-map plans plan_size ∙ e) (omega arith) l
    ∙ sym (link_of-sites at blocks plans (starts_at at plans) i e (starts_count at blocks plans e))

pub padded_same :
    (source : SourceValue) (blocks : List Block) (at i : ℕ) → AreBlocks source blocks → i ≤ length source.statements
    → slice_index (statement_starts at blocks (map padded_size blocks)) i ≡ padded_link at blocks i
padded_same source blocks at i h l =
    links_hold source 0 (length source.statements) at blocks (map padded_size blocks) i i h (length-map blocks padded_size) (omega arith) l
    ∙ sym (padded_link-sizes at blocks i)

-- a source with an overlong branch is refused by it
pub refusal :
    (Proposes : Block → Plan → Type 0) (source : SourceValue) (place : Place) (blocks : List Block) (plans proposals : List Plan) (rejected : ℕ)
    (error : LinkError) → Taken Proposes source blocks plans proposals rejected → IsReported (overlong source place blocks) error
    → IsRefusal Proposes source place error
refusal Proposes source place blocks plans proposals rejected Memory t h = tt
refusal Proposes source place blocks plans proposals rejected (Displacement line from to) t h = record {
  sites = sites_at place.code blocks plans;
  proposals = proposals;
  rejected = rejected;
  layout = layout Proposes source place blocks plans proposals rejected t;
  kept = kept Proposes source blocks plans proposals rejected place.code t;
  is = ap (overlong source place) (blocks_same place.code blocks plans t.count) ∙ h;
}

-- what was chosen for the blocks, which were given as another list
pub taken_from :
    (Proposes : Block → Plan → Type 0) (source : SourceValue) (blocks blocks' : List Block) (chosen : Choices) → blocks' ≡ blocks → AreBlocks source blocks
    → length chosen.plans.items ≡ length blocks' → AreTaken Proposes chosen.rejected blocks' chosen.plans.items chosen.proposals.items
    → Taken Proposes source blocks chosen.plans.items chosen.proposals.items chosen.rejected
taken_from Proposes source blocks blocks' chosen e all count taken = record {
  all = all;
  count = count ∙ ap length e;
  taken = subst (λ (l : List Block). AreTaken Proposes chosen.rejected l chosen.plans.items chosen.proposals.items) e taken;
}

-- the sizes that were told of such plans have room too
pub sizes_room :
    {Proposes : Block → Plan → Type 0} {source : SourceValue} {blocks : List Block} {plans proposals : List Plan} {rejected : ℕ}
    → Taken Proposes source blocks plans proposals rejected → (at : ℕ) {told : List Plan} {sizes words : List ℕ} → told ≡ plans → sizes ≡ map plan_size told
    → words ≡ sizes → at + sum words ≤ at + 3 * length source.statements
sizes_room t at e f h =
    let room = plans_room _ _ _ _ _ _ at t in
    let same = ap sum (h ∙ f ∙ ap (map plan_size) e) in
    omega arith
