-- What a line chooses is chosen for the statement that its block begins with.
use Rattle.std.proofs.Common.{◌≡◌, ℕ, zero, suc, ◌+◌, ◌-◌, ◌≤◌, List, [], ◌∷◌, ◌++◌, length, Option, Some, None, replicate, refl, sym, ap, ◌∙◌, arith}
use Rattle.std.specs.Prelude.{slice_get, slice_index_or}
use Rattle.std.proofs.lemmas.Option.{none-some, same_Some}
use Rattle.mx_source.specs.SourceValue.{SourceValue}
use Rattle.mx_blocks.specs.declared.Block.{Block}
use Rattle.mx_blocks.specs.Leaders.{BlocksFrom, size}
use Rattle.mx_squash.specs.Copies.{Site, site_of, is_target}
use Rattle.mx_layout.specs.Layout.{blocks_in}
use Rattle.mx_link.specs.Origins.{copies_chosen}
use Rattle.mx_plans.specs.Files.{LineSaid, unsaid}
use Rattle.mx_plans.specs.Copies.{choices_of, PlannedByLines}

-- the statements of a block after its first have no choice
skipped : (n m at : ℕ) (rest : List (Option ℕ)) → at ≡ n + m → slice_index_or (replicate n None ++ rest) at None ≡ slice_index_or rest m None
skipped zero m at rest e = ap (λ i. slice_index_or rest i None) (let same : at ≡ m = omega arith in same)
skipped (suc n) m zero rest e = absurd (omega arith)
skipped (suc n) m (suc at) rest e = skipped n m at rest (omega arith)

block_at : (sites : List Site) (k : ℕ) (s : Site) → slice_get sites k ≡ Some s → slice_get (blocks_in sites) k ≡ Some s.block
block_at [] k s e = absurd (none-some s e)
block_at (x ∷ sites) zero s e = ap (λ (y : Site). Some y.block) (same_Some x s e)
block_at (x ∷ sites) (suc k) s e = block_at sites k s e

-- no block begins before its source does
begins : (source : SourceValue) (i j : ℕ) (blocks : List Block) → BlocksFrom source i j blocks → (k : ℕ) (b : Block) → slice_get blocks k ≡ Some b
    → i ≤ b.first
begins source i j [] h k b e = absurd (none-some b e)
begins source i j (c ∷ blocks) h zero b e =
    let same : c.first ≡ b.first = ap (λ (x : Block). x.first) (same_Some c b e) in
    let first = h.0 in
    omega arith
begins source i j (c ∷ blocks) h (suc k) b e = let low = begins source (i + size c) j blocks h.2 k b e in omega arith

no_choices : (blocks : List Block) → choices_of blocks [] ≡ []
no_choices [] = refl
no_choices (b ∷ blocks) = refl

-- the choice for block k, m statements after the first of these blocks
chosen_at : (source : SourceValue) (i j : ℕ) (blocks : List Block) (lines : List LineSaid) (k : ℕ) (b : Block) (m : ℕ)
    → BlocksFrom source i j blocks → slice_get blocks k ≡ Some b → b.first ≡ i + m
    → slice_index_or (choices_of blocks lines) m None ≡ (slice_index_or lines k unsaid).copies
chosen_at source i j [] lines k b m h e f = absurd (none-some b e)
chosen_at source i j (c ∷ blocks) [] k b m h e f = refl
chosen_at source i j (c ∷ blocks) (line ∷ lines) zero b m h e f =
    let same : c.first ≡ b.first = ap (λ (x : Block). x.first) (same_Some c b e) in
    let first = h.0 in
    let here : m ≡ 0 = omega arith in
    ap (λ (n : ℕ). slice_index_or (line.copies ∷ replicate (size c - 1) None ++ choices_of blocks lines) n None) here
chosen_at source i j (c ∷ blocks) (line ∷ lines) (suc k) b zero h e f =
    let low = begins source (i + size c) j blocks h.2 k b e in
    let some = h.1.some in
    absurd (omega arith)
chosen_at source i j (c ∷ blocks) (line ∷ lines) (suc k) b (suc m) h e f =
    let low = begins source (i + size c) j blocks h.2 k b e in
    let some = h.1.some in
    let next = suc m - size c in
    skipped (size c - 1) next m (choices_of blocks lines) (omega arith)
    ∙ chosen_at source (i + size c) j blocks lines k b next h.2 e (omega arith)

pub planned_by_lines : PlannedByLines
planned_by_lines source lines sites k s are is =
    let first = s.block.first in
    ap (λ choice. copies_chosen choice s (site_of (is_target s.block.end) sites))
    (chosen_at source 0 (length source.statements) (blocks_in sites) lines k s.block first are (block_at sites k s is) (omega arith))
