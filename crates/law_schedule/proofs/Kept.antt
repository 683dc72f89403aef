-- What is kept where greedy plans are proposed.
use Rattle.std.proofs.Common.{◌≡◌, ℕ, zero, suc, List, [], ◌∷◌, sym, subst, ⊎_elim, arith}
use Rattle.std.specs.Prelude.{All}
use Rattle.mx_isa.specs.declared.Place.{Place}
use Rattle.mx_source.specs.SourceValue.{SourceValue}
use Rattle.mx_blocks.specs.declared.block.Plan.{Plan}
use Rattle.mx_squash.specs.Copies.{Site}
use Rattle.mx_layout.specs.Layout.{IsLayout}
use Rattle.mx_layout.specs.Kept.{AreKept}
use Rattle.mx_layout.specs.Overlong.{Overlong, IsOverlong}
use Rattle.mx_link.specs.declared.linked.Linked.{Linked}
use Rattle.mx_link.specs.Origins.{Filling}
use Rattle.mx_link.specs.Linked.{IsLinked}
use Rattle.mx_reorg.specs.Greedy.{IsGreedy}
use Rattle.mx_isa.specs.Board.{board}
use Rattle.law_schedule.specs.Schedule.{IsScheduler}
use Rattle.mx_reorg.proofs.ValidPlans.{greedy_valid}
use Rattle.mx_reorg.proofs.ExistsItems.{height_of}

-- no proposal is rejected, and each plan is greedy
pub record AreGreedy (n : ℕ) (sites : List Site) : Type 0 where
  pub none : n ≡ 0
  pub plans : All (λ (s : Site). IsGreedy s.block s.plan) sites

one_more : (s : Site) (sites : List Site) → IsGreedy s.block s.plan → All (λ (s : Site). IsGreedy s.block s.plan) sites
    → All (λ (s : Site). IsGreedy s.block s.plan) (s ∷ sites)
one_more s sites g all zero d l = g
one_more s sites g all (suc k) d l = all k d (omega arith)

pub kept_greedy : (n : ℕ) (sites : List Site) (proposals : List Plan) → AreKept IsGreedy n sites proposals → AreGreedy n sites
kept_greedy n [] [] kept = record { none = kept; plans = λ k d l. absurd (omega arith) }
kept_greedy n (s ∷ sites) (proposal ∷ proposals) kept = ⊎_elim
    (λ valid.
    let others = kept_greedy n sites proposals valid.2 in
    record { none = others.none; plans = one_more s sites (subst (λ (p : Plan). IsGreedy s.block p) (sym valid.1) kept.0) others.plans })
    (λ faulty. absurd (faulty.0 (greedy_valid s.block proposal kept.0 (λ x l. height_of s.block x))))
    kept.1
kept_greedy n [] (proposal ∷ proposals) kept = absurd kept
kept_greedy n (s ∷ sites) [] kept = absurd kept

-- a source that is linked by greedy plans is laid out by greedy plans, and no proposal is rejected
module _ (filling : Filling) (source : SourceValue) (place : Place) (l : Linked) (k : IsLinked IsGreedy filling source place l) where
  pub linked_layout : IsLayout IsGreedy source place k.sites
  linked_layout = record { blocks = k.layout.blocks; stand = k.layout.stand; plans = (kept_greedy l.rejected k.sites l.proposals.items k.kept).plans }

  pub none_rejected : l.rejected ≡ 0
  none_rejected = (kept_greedy l.rejected k.sites l.proposals.items k.kept).none

-- the same, of the layout in which an overlong branch was found
module _ (source : SourceValue) (place : Place) (found : Overlong) (t : IsOverlong IsGreedy source place found) where
  pub overlong_layout : IsLayout IsGreedy source place t.sites
  overlong_layout = record { blocks = t.layout.blocks; stand = t.layout.stand; plans = (kept_greedy t.rejected t.sites t.proposals t.kept).plans }

  pub overlong_rejected : t.rejected ≡ 0
  overlong_rejected = (kept_greedy t.rejected t.sites t.proposals t.kept).none

pub linked_sites : (layout_of : SourceValue → List Site) → IsScheduler layout_of → (filling : Filling) (source : SourceValue) (l : Linked)
    → (k : IsLinked IsGreedy filling source board l) → layout_of source ≡ k.sites
linked_sites layout_of is filling source l k = is source k.sites (linked_layout filling source board l k)

pub overlong_sites : (layout_of : SourceValue → List Site) → IsScheduler layout_of → (source : SourceValue) (found : Overlong)
    → (t : IsOverlong IsGreedy source board found) → layout_of source ≡ t.sites
overlong_sites layout_of is source found t = is source t.sites (overlong_layout source board found t)
