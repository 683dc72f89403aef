-- Each source has exactly one layout by greedy plans.
use Rattle.std.proofs.Common.{◌≡◌, ℕ, zero, suc, ◌+◌, List, [], ◌∷◌, length, refl, sym, ap, subst, ◌∙◌, arith}
use Rattle.std.specs.Prelude.{All, slice_index_or}
use Rattle.mx_isa.specs.declared.Place.{Place}
use Rattle.mx_source.specs.SourceValue.{SourceValue, IsSource}
use Rattle.mx_blocks.specs.declared.Block.{Block}
use Rattle.mx_blocks.specs.declared.Plan.{Plan}
use Rattle.mx_blocks.specs.Leaders.{AreBlocks}
use Rattle.mx_blocks.proofs.ExistsBlocks.{blocks_exist}
use Rattle.mx_blocks.proofs.UniqueBlocks.{blocks_unique}
use Rattle.mx_squash.specs.Copies.{Site}
use Rattle.mx_layout.specs.Layout.{IsLayout, StandFrom, blocks_in, plan_size}
use Rattle.mx_reorg.specs.Greedy.{IsGreedy}
use Rattle.mx_reorg.specs.GreedyPlans.{AreGreedy}
use Rattle.mx_reorg.proofs.Unique.{greedy_unique}
use Rattle.mx_reorg.proofs.ExistsItems.{height_of}
use Rattle.mx_reorg.proofs.ExistsLayouts.{plans_of}

abbrev Greedy : Site → Type 0
Greedy s = IsGreedy s.block s.plan

first_is : (s : Site) (sites : List Site) → All Greedy (s ∷ sites) → Greedy s
first_is s sites all = all 0 s (omega arith)

others_are : (s : Site) (sites : List Site) → All Greedy (s ∷ sites) → All Greedy sites
others_are s sites all = λ k d l. all (suc k) d (omega arith)

-- blocks with these plans, one behind the other from an address on
abbrev sites_at : ℕ → List Block → List Plan → List Site
sites_at at (b ∷ blocks) (p ∷ plans) = record { block = b; plan = p; start = at } ∷ sites_at (at + plan_size p) blocks plans
sites_at at _ _ = []

blocks_are : (at : ℕ) (blocks : List Block) (plans : List Plan) → AreGreedy blocks plans → blocks_in (sites_at at blocks plans) ≡ blocks
blocks_are at [] [] g = refl
blocks_are at (b ∷ blocks) (p ∷ plans) g = λ i. b ∷ blocks_are (at + plan_size p) blocks plans g.1 i
blocks_are at [] (p ∷ plans) g = absurd g
blocks_are at (b ∷ blocks) [] g = absurd g

stand : (at : ℕ) (blocks : List Block) (plans : List Plan) → StandFrom at (sites_at at blocks plans)
stand at [] plans = tt
stand at (b ∷ blocks) [] = tt
stand at (b ∷ blocks) (p ∷ plans) = (refl, stand (at + plan_size p) blocks plans)

greedy : (at : ℕ) (blocks : List Block) (plans : List Plan) → AreGreedy blocks plans → All Greedy (sites_at at blocks plans)
greedy at [] [] g = λ k d l. absurd (omega arith)
greedy at (b ∷ blocks) (p ∷ plans) g = with_first (record { block = b; plan = p; start = at }) _ g.0 (greedy (at + plan_size p) blocks plans g.1)
  where
    with_first : (s : Site) (sites : List Site) → Greedy s → All Greedy sites → All Greedy (s ∷ sites)
    with_first s sites first all zero d l = first
    with_first s sites first all (suc k) d l = all k d (omega arith)
greedy at [] (p ∷ plans) g = absurd g
greedy at (b ∷ blocks) [] g = absurd g

-- blocks of a source with their greedy plans are a layout of it
pub laid_out : (source : SourceValue) (place : Place) (blocks : List Block) → AreBlocks source blocks
    → (sites : List Site) × IsLayout IsGreedy source place sites
laid_out source place blocks are =
    let plans = plans_of blocks in (
      sites_at place.code blocks plans.0,
      record {
        blocks = subst (λ (bs : List Block). AreBlocks source bs) (sym (blocks_are place.code blocks plans.0 plans.1)) are;
        stand = stand place.code blocks plans.0;
        plans = greedy place.code blocks plans.0 plans.1;
      },
    )

pub layout_exists : (source : SourceValue) (place : Place) → IsSource source → (sites : List Site) × IsLayout IsGreedy source place sites
layout_exists source place kept =
    let found = blocks_exist source kept in
    laid_out source place found.0 found.1

abbrev rest : List Block → List Block
rest [] = []
rest (b ∷ blocks) = blocks

same_from : (at : ℕ) (sites others : List Site) → blocks_in sites ≡ blocks_in others → StandFrom at sites → StandFrom at others → All Greedy sites
    → All Greedy others → sites ≡ others
same_from at [] [] e a b g h = refl
same_from at [] (t ∷ others) e a b g h = absurd (let l : length (blocks_in []) ≡ length (blocks_in (t ∷ others)) = ap length e in omega arith)
same_from at (s ∷ sites) [] e a b g h = absurd (let l : length (blocks_in (s ∷ sites)) ≡ length (blocks_in []) = ap length e in omega arith)
same_from at (s ∷ sites) (t ∷ others) e a b g h =
    let block : s.block ≡ t.block = ap (λ (bs : List Block). slice_index_or bs 0 s.block) e in
    let plan : s.plan ≡ t.plan =
    greedy_unique t.block (λ x l. height_of t.block x) s.plan t.plan (subst (λ (c : Block). IsGreedy c s.plan) block (first_is s sites g))
    (first_is t others h) in
    let start : s.start ≡ t.start = a.0 ∙ sym b.0 in
    let more = same_from (at + plan_size s.plan) sites others (ap rest e) a.1
    (subst (λ (p : Plan). StandFrom (at + plan_size p) others) (sym plan) b.1) (others_are s sites g) (others_are t others h) in
    λ i. record { block = block i; plan = plan i; start = start i } ∷ more i

pub layout_unique : (source : SourceValue) (place : Place) (sites others : List Site)
    → IsLayout IsGreedy source place sites → IsLayout IsGreedy source place others → sites ≡ others
layout_unique source place sites others l m =
    same_from place.code sites others (blocks_unique source (blocks_in sites) (blocks_in others) l.blocks m.blocks) l.stand m.stand l.plans m.plans
