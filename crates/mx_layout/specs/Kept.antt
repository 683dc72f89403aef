-- The plans that are taken for proposals.
use Rattle.std.specs.Prelude.{◌≡◌, ℕ, suc, ◌⊎◌, List, [], ◌∷◌}
use Rattle.mx_blocks.specs.declared.Block.{Block}
use Rattle.mx_blocks.specs.declared.Plan.{Plan}
use Rattle.mx_validate.specs.Padded.{IsPadded}
use Rattle.mx_validate.specs.Validity.{Valid}
use Rattle.mx_squash.specs.Copies.{Site}

-- a proposal that is valid is taken, and for any other one the padded plan
abbrev pub IsTaken : Block → Plan → Plan → Type 0
IsTaken block proposal plan = (Valid block proposal × (plan ≡ proposal)) ⊎ ((¬ Valid block proposal) × IsPadded block plan)

-- each site has what was proposed for its block, and as its plan what is taken for that; n of these proposals are not valid
abbrev pub AreKept : (Block → Plan → Type 0) → ℕ → List Site → List Plan → Type 0
AreKept Proposes n [] [] = n ≡ 0
AreKept Proposes n (s ∷ sites) (proposal ∷ proposals) =
    Proposes s.block proposal
    × ((Valid s.block proposal × (s.plan ≡ proposal) × AreKept Proposes n sites proposals)
    ⊎ ((¬ Valid s.block proposal) × IsPadded s.block s.plan × (m : ℕ) × (n ≡ suc m) × AreKept Proposes m sites proposals))
AreKept Proposes n _ _ = ⊥
