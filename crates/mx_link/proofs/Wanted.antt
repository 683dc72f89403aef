-- What was asked for a block of a layout is what is wanted for its site.
use Rattle.std.proofs.Common.{◌≡◌, ℕ, List, length, Some, Result, sym, ap, ◌∙◌, subst}
use Rattle.std.specs.Prelude.{slice_get, slice_index_or}
use Rattle.std.specs.Option.{option_map}
use Rattle.std.proofs.lemmas.Option.{same_Some, slice_get-map}
use Rattle.mx_blocks.specs.declared.Block.{Block}
use Rattle.mx_blocks.specs.declared.Plan.{Plan}
use Rattle.mx_squash.specs.declared.Copied.{Copied}
use Rattle.mx_squash.specs.declared.CopyRule.{CopyRule}
use Rattle.mx_squash.specs.Copies.{Site, sites, site_of, is_target}
use Rattle.mx_squash.specs.Chosen.{copies_asked}
use Rattle.mx_layout.specs.declared.Layout.{Layout}
use Rattle.mx_layout.proofs.Sited.{blocks_in-sites}
use Rattle.mx_link.specs.Parts.{sites_of}

-- the block of a site is that of its number
pub block_at :
    (l : Layout) → length l.plans.items ≡ length l.blocks.items → length l.starts.items ≡ length l.blocks.items
    → (k : ℕ) (s : Site) (b : Block) → slice_get (sites_of l) k ≡ Some s → slice_get l.blocks.items k ≡ Some b → s.block ≡ b
block_at l plans starts k s b e f = same_Some s.block b
    (sym (ap (option_map (λ (x : Site). x.block)) e)
    ∙ sym (slice_get-map (λ (x : Site). x.block) (sites_of l) k)
    ∙ ap (λ bs. slice_get bs k) (blocks_in-sites l.blocks.items l.plans.items l.starts.items plans starts)
    ∙ f)

abbrev pub Asked : ℕ → Result Copied CopyRule → ℕ → List Site → Type 0
Asked k r n all = (s : Site) → slice_get all k ≡ Some s → r ≡ copies_asked n s (site_of (is_target s.block.end) all)

pub asked_at :
    (l : Layout) (blocks : List Block) (plans : List Plan) (starts : List ℕ) → blocks ≡ l.blocks.items → plans ≡ l.plans.items
    → starts ≡ l.starts.items → (k : ℕ) (r : Result Copied CopyRule) (n : ℕ) → Asked k r n (sites blocks plans starts) → Asked k r n (sites_of l)
asked_at l blocks plans starts e f g k r n h =
    subst (λ (x : List Block). Asked k r n (sites x l.plans.items l.starts.items)) e
    (subst (λ (y : List Plan). Asked k r n (sites blocks y l.starts.items)) f
    (subst (λ (z : List ℕ). Asked k r n (sites blocks plans z)) g h))

-- for the block of a site the same is listed as for that of its number
pub listed_there : {A : Type 0}
    (l : Layout) → length l.plans.items ≡ length l.blocks.items → length l.starts.items ≡ length l.blocks.items
    → (k : ℕ) (s : Site) (b : Block) (xs : List A) (other : A) → slice_get (sites_of l) k ≡ Some s → slice_get l.blocks.items k ≡ Some b
    → slice_index_or xs b.first other ≡ slice_index_or xs s.block.first other
listed_there l plans starts k s b xs other e f =
    ap (λ (x : Block). slice_index_or xs x.first other) (sym (block_at l plans starts k s b e f))
