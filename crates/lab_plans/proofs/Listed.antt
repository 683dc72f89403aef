-- Verdicts on plans, one after the other, and their lines.
use Rattle.std.proofs.Common.{◌≡◌, ℕ, suc, ◌+◌, ◌<◌, ◌++◌, List, [], ◌∷◌, length, take, refl, ap, sym, subst, ◌∙◌, arith}
use Rattle.std.specs.Prelude.{Option, slice_index_or}
use Rattle.std.proofs.Math.Seq.{take-suc}
use Rattle.mx_blocks.specs.declared.block.Block.{Block}
use Rattle.mx_blocks.specs.declared.block.Plan.{Plan}
use Rattle.mx_plans.specs.declared.rule.Rule.{Rule}
use Rattle.mx_plans.specs.Rules.{IsVerdict}
use Rattle.lab_plans.specs.Verdicts.{AreVerdicts}

one_more : (blocks : List Block) (plans : List Plan) (verdicts : List (Option Rule)) (b : Block) (p : Plan) (v : Option Rule)
    → AreVerdicts blocks plans verdicts → IsVerdict b p v → AreVerdicts (blocks ++ b ∷ []) (plans ++ p ∷ []) (verdicts ++ v ∷ [])
one_more [] [] [] b p v are is = (is, tt)
one_more (x ∷ blocks) (y ∷ plans) (z ∷ verdicts) b p v are is = (are.0, one_more blocks plans verdicts b p v are.1 is)
one_more [] [] (z ∷ verdicts) b p v are is = absurd are
one_more [] (y ∷ plans) verdicts b p v are is = absurd are
one_more (x ∷ blocks) [] verdicts b p v are is = absurd are
one_more (x ∷ blocks) (y ∷ plans) [] b p v are is = absurd are

-- the verdict on the plan of index i
pub verdicts_more : (blocks : List Block) (plans : List Plan) (verdicts more : List (Option Rule)) (i : ℕ) (b : Block) (p : Plan) (v : Option Rule)
    → i < length blocks → i < length plans → AreVerdicts (take i blocks) (take i plans) verdicts
    → b ≡ slice_index_or blocks i b → p ≡ slice_index_or plans i p → IsVerdict b p v → more ≡ verdicts ++ v ∷ []
    → AreVerdicts (take (i + 1) blocks) (take (i + 1) plans) more
verdicts_more blocks plans verdicts more i b p v few fewer are block plan is pushed =
    let next : suc i ≡ i + 1 = omega arith in
    let blocks_are : take i blocks ++ b ∷ [] ≡ take (i + 1) blocks =
    ap (λ x. take i blocks ++ x ∷ []) block ∙ sym (take-suc blocks i b few) ∙ ap (λ n. take n blocks) next in
    let plans_are : take i plans ++ p ∷ [] ≡ take (i + 1) plans =
    ap (λ x. take i plans ++ x ∷ []) plan ∙ sym (take-suc plans i p fewer) ∙ ap (λ n. take n plans) next in
    let at : AreVerdicts (take i blocks ++ b ∷ []) (take i plans ++ p ∷ []) (verdicts ++ v ∷ []) =
    one_more (take i blocks) (take i plans) verdicts b p v are is in
    subst (λ (l : List Block). AreVerdicts l (take (i + 1) plans) more) blocks_are
    (subst (λ (l : List Plan). AreVerdicts (take i blocks ++ b ∷ []) l more) plans_are
    (subst (λ (l : List (Option Rule)). AreVerdicts (take i blocks ++ b ∷ []) (take i plans ++ p ∷ []) l) (sym pushed) at))

-- a verdict for each block
pub verdicts_count : (blocks : List Block) (plans : List Plan) (verdicts : List (Option Rule))
    → AreVerdicts blocks plans verdicts → length verdicts ≡ length blocks
verdicts_count [] [] [] are = refl
verdicts_count (x ∷ blocks) (y ∷ plans) (z ∷ verdicts) are = ap suc (verdicts_count blocks plans verdicts are.1)
verdicts_count [] [] (z ∷ verdicts) are = absurd are
verdicts_count [] (y ∷ plans) verdicts are = absurd are
verdicts_count (x ∷ blocks) [] verdicts are = absurd are
verdicts_count (x ∷ blocks) (y ∷ plans) [] are = absurd are
