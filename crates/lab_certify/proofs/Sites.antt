-- The blocks, plans and addresses of the sites of a layout.
use Rattle.std.proofs.Common.{◌≡◌, ℕ, zero, suc, List, [], ◌∷◌, length, Some, refl, sym, ap, subst, ⊎_elim}
use Rattle.std.specs.Prelude.{slice_get}
use Rattle.std.proofs.lemmas.Option.{none-some, same_Some}
use Rattle.mx_blocks.specs.declared.Block.{Block}
use Rattle.mx_blocks.specs.declared.Plan.{Plan}
use Rattle.mx_validate.specs.Validity.{Valid}
use Rattle.mx_squash.specs.Copies.{Site, sites}
use Rattle.mx_layout.specs.Layout.{blocks_in}
use Rattle.mx_layout.specs.Kept.{AreKept}
use Rattle.lab_certify.specs.Verified.{AtBoth}

pub start_at :
    (blocks : List Block) (plans : List Plan) (starts : List ℕ) (k : ℕ) (s : Site) → slice_get (sites blocks plans starts) k ≡ Some s
    → slice_get starts k ≡ Some s.start
start_at [] plans starts k s e = absurd (none-some s e)
start_at (b ∷ blocks) [] starts k s e = absurd (none-some s e)
start_at (b ∷ blocks) (p ∷ plans) [] k s e = absurd (none-some s e)
start_at (b ∷ blocks) (p ∷ plans) (t ∷ starts) zero s e =
    ap (λ (x : Site). Some x.start) (same_Some (record { block = b; plan = p; start = t }) s e)
start_at (b ∷ blocks) (p ∷ plans) (t ∷ starts) (suc k) s e = start_at blocks plans starts k s e

module _ (P : Block → Plan → Type 0) where
  pub kept_count : (n : ℕ) (all : List Site) (proposals : List Plan) → AreKept P n all proposals → length proposals ≡ length all
  kept_count n [] [] kept = refl
  kept_count n [] (p ∷ proposals) kept = absurd kept
  kept_count n (s ∷ all) [] kept = absurd kept
  kept_count n (s ∷ all) (p ∷ proposals) kept = ap suc (⊎_elim
      (λ valid. kept_count n all proposals valid.2)
      (λ broken. kept_count broken.2 all proposals broken.4)
      kept.1)

  -- what is proposed for a block is proposed
  pub kept_at :
      (n : ℕ) (all : List Site) (proposals : List Plan) → AreKept P n all proposals → (k : ℕ) → AtBoth P (blocks_in all) proposals k
  kept_at n [] proposals kept k = λ b p e f. absurd (none-some b e)
  kept_at n (s ∷ all) [] kept k = λ b p e f. absurd (none-some p f)
  kept_at n (s ∷ all) (q ∷ proposals) kept zero = λ b p e f.
      subst (λ (x : Plan). P b x) (same_Some q p f) (subst (λ (x : Block). P x q) (same_Some s.block b e) kept.0)
  kept_at n (s ∷ all) (q ∷ proposals) kept (suc k) = ⊎_elim
      (λ valid. kept_at n all proposals valid.2 k)
      (λ broken. kept_at broken.2 all proposals broken.4 k)
      kept.1

  -- where each proposal is valid, it is the plan of its block
  pub kept_plans :
      (n : ℕ) (all : List Site) (proposals : List Plan) → AreKept P n all proposals → ((k : ℕ) → AtBoth Valid (blocks_in all) proposals k)
      → (k : ℕ) (s : Site) → slice_get all k ≡ Some s → P s.block s.plan
  kept_plans n [] proposals kept valid k s e = absurd (none-some s e)
  kept_plans n (t ∷ all) [] kept valid k s e = absurd kept
  kept_plans n (t ∷ all) (q ∷ proposals) kept valid zero s e =
      subst (λ (x : Site). P x.block x.plan) (same_Some t s e)
      (⊎_elim
      (λ taken. subst (λ (x : Plan). P t.block x) (sym taken.1) kept.0)
      (λ broken. absurd (broken.0 (valid 0 t.block q refl refl)))
      kept.1)
  kept_plans n (t ∷ all) (q ∷ proposals) kept valid (suc k) s e = ⊎_elim
      (λ taken. kept_plans n all proposals taken.2 (λ j. valid (suc j)) k s e)
      (λ broken. absurd (broken.0 (valid 0 t.block q refl refl)))
      kept.1
