-- The sites of a layout by their numbers.
use Rattle.std.proofs.Common.{◌≡◌, ◌<◌, ℕ, zero, suc, List, [], ◌∷◌, length, Some, refl, ap, arith}
use Rattle.std.specs.Prelude.{slice_get, slice_index_or}
use Rattle.std.proofs.lemmas.Option.{none-some, same_Some, slice_get-get_or}
use Rattle.mx_blocks.specs.declared.Block.{Block}
use Rattle.mx_blocks.specs.declared.Plan.{Plan}
use Rattle.mx_squash.specs.Copies.{Site, sites}

-- the site that begins at an address
pub record SiteAt (all : List Site) (k start : ℕ) : Type 0 where
  pub site : Site
  pub is : slice_get all k ≡ Some site
  pub begins : site.start ≡ start

pub site_at :
    (blocks : List Block) (plans : List Plan) (starts : List ℕ) → length plans ≡ length blocks → length starts ≡ length blocks
    → (k start : ℕ) → slice_get starts k ≡ Some start → SiteAt (sites blocks plans starts) k start
site_at [] plans [] h g k start e = absurd (none-some start e)
site_at [] plans (t ∷ starts) h g k start e = absurd (omega arith)
site_at (b ∷ blocks) [] starts h g k start e = absurd (omega arith)
site_at (b ∷ blocks) (p ∷ plans) [] h g k start e = absurd (none-some start e)
site_at (b ∷ blocks) (p ∷ plans) (t ∷ starts) h g zero start e =
    record { site = record { block = b; plan = p; start = t }; is = refl; begins = same_Some t start e }
site_at (b ∷ blocks) (p ∷ plans) (t ∷ starts) h g (suc k) start e =
    let rest = site_at blocks plans starts (omega arith) (omega arith) k start e in
    record { site = rest.site; is = rest.is; begins = rest.begins }

-- the site of a number
pub record SiteOf (all : List Site) (k : ℕ) : Type 0 where
  pub site : Site
  pub is : slice_get all k ≡ Some site

pub site_there :
    (blocks : List Block) (plans : List Plan) (starts : List ℕ) → length plans ≡ length blocks → length starts ≡ length blocks
    → (k : ℕ) → k < length blocks → SiteOf (sites blocks plans starts) k
site_there blocks plans starts h g k low =
    let found = site_at blocks plans starts h g k (slice_index_or starts k 0) (slice_get-get_or starts k 0 (omega arith)) in
    record { site = found.site; is = found.is }

pub site_count :
    (blocks : List Block) (plans : List Plan) (starts : List ℕ) → length plans ≡ length blocks → length starts ≡ length blocks
    → length (sites blocks plans starts) ≡ length blocks
site_count [] plans starts h g = refl
site_count (b ∷ blocks) [] starts h g = absurd (omega arith)
site_count (b ∷ blocks) (p ∷ plans) [] h g = absurd (omega arith)
site_count (b ∷ blocks) (p ∷ plans) (t ∷ starts) h g = ap suc (site_count blocks plans starts (omega arith) (omega arith))
