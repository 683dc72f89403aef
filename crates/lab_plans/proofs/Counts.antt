-- As many plans are proposed as there are blocks.
use Rattle.std.proofs.Common.{◌≡◌, ℕ, suc, List, [], ◌∷◌, length, refl, ap, ⊎_elim}
use Rattle.mx_blocks.specs.declared.block.Block.{Block}
use Rattle.mx_blocks.specs.declared.block.Plan.{Plan}
use Rattle.mx_squash.specs.Copies.{Site}
use Rattle.mx_layout.specs.Layout.{blocks_in}
use Rattle.mx_layout.specs.Kept.{AreKept}

pub kept_count : (P : Block → Plan → Type 0) (n : ℕ) (sites : List Site) (proposals : List Plan)
    → AreKept P n sites proposals → length proposals ≡ length (blocks_in sites)
kept_count P n [] [] k = refl
kept_count P n (s ∷ sites) (proposal ∷ proposals) k =
    ap suc (⊎_elim (λ valid. kept_count P n sites proposals valid.2) (λ broken. kept_count P broken.2 sites proposals broken.4) k.1)
kept_count P n [] (proposal ∷ proposals) k = absurd k
kept_count P n (s ∷ sites) [] k = absurd k
