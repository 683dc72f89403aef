-- Where greedy plans are proposed, they are the plans of their blocks.
use Rattle.std.proofs.Common.{◌≡◌, ℕ, List, Some}
use Rattle.std.specs.Prelude.{slice_get}
use Rattle.mx_blocks.specs.declared.Plan.{Plan}
use Rattle.mx_squash.specs.Copies.{Site}
use Rattle.mx_layout.specs.Kept.{AreKept}
use Rattle.mx_reorg.specs.Greedy.{IsGreedy}
use Rattle.mx_reorg.proofs.ExistsItems.{height_of}
use Rattle.mx_reorg.proofs.ValidPlans.{greedy_valid}
use Rattle.lab_certify.proofs.Sites.{kept_at, kept_plans}

pub greedy_plans :
    (n : ℕ) (all : List Site) (proposals : List Plan) → AreKept IsGreedy n all proposals → (k : ℕ) (s : Site) → slice_get all k ≡ Some s
    → IsGreedy s.block s.plan
greedy_plans n all proposals kept = kept_plans IsGreedy n all proposals kept
    (λ k b p e f. greedy_valid b p (kept_at IsGreedy n all proposals kept k b p e f) (λ x l. height_of b x))
