-- The lines of what is rejected, for a source that is laid out.
use Rattle.std.proofs.Common.{◌≡◌, ◌≤◌, ℕ, List, [], ◌∷◌, ◌++◌, length, Option, ap, ◌∙◌, arith}
use Rattle.mx_isa.specs.Board.{board}
use Rattle.mx_source.specs.SourceValue.{SourceValue}
use Rattle.mx_blocks.specs.declared.Block.{Block}
use Rattle.mx_squash.specs.declared.CopyRule.{CopyRule}
use Rattle.mx_squash.specs.Copies.{Site}
use Rattle.mx_layout.specs.declared.Layout.{Layout}
use Rattle.mx_link.specs.Laid.{IsLaidAt}
use Rattle.mx_link.specs.Parts.{sites_of}
use Rattle.mx_plans.specs.declared.Rule.{Rule}
use Rattle.mx_plans.specs.Files.{LineSaid}
use Rattle.mx_plans.specs.Copies.{copy_verdicts}
use Rattle.mx_plans.proofs.Sites.{site_count}
use Rattle.lab_plans.specs.Copies.{copy_lines}
use Rattle.lab_plans.specs.Verdicts.{verdict_lines}

verdicts_few : (all sites : List Site) (lines : List LineSaid) → length (copy_verdicts all sites lines) ≤ length sites
verdicts_few all [] lines = omega arith
verdicts_few all (s ∷ sites) [] = omega arith
verdicts_few all (s ∷ sites) (said ∷ lines) = let rest = verdicts_few all sites lines in omega (arith, rest)

-- as many verdicts on copies as blocks, or fewer
pub copies_few :
    (source : SourceValue) (l : Layout) → IsLaidAt source board l → (lines : List LineSaid) (blocks : List Block) (copies : List (Option CopyRule))
    → blocks ≡ l.blocks.items → copies ≡ copy_verdicts (sites_of l) (sites_of l) lines → length copies ≤ length blocks
copies_few source l laid lines blocks copies e f =
    let few = verdicts_few (sites_of l) (sites_of l) lines in
    let count = site_count l.blocks.items l.plans.items l.starts.items laid.plans laid.starts in
    let same_blocks = ap length e in
    let same_copies = ap length f in
    omega (arith, few, count, same_blocks, same_copies)

-- the same lines of the same lists
pub same_lines :
    (lines own : List ℕ) (blocks others : List Block) (plans judged : List (Option Rule)) (copies forbidden : List (Option CopyRule))
    → lines ≡ own → blocks ≡ others → plans ≡ judged → copies ≡ forbidden
    → verdict_lines lines 1 blocks plans ++ copy_lines lines 1 blocks copies ≡ verdict_lines own 1 others judged ++ copy_lines own 1 others forbidden
same_lines lines own blocks others plans judged copies forbidden e f g h =
    ap (λ (l : List ℕ). verdict_lines l 1 blocks plans ++ copy_lines l 1 blocks copies) e
    ∙ ap (λ (bs : List Block). verdict_lines own 1 bs plans ++ copy_lines own 1 bs copies) f
    ∙ ap (λ (vs : List (Option Rule)). verdict_lines own 1 others vs ++ copy_lines own 1 others copies) g
    ∙ ap (λ (cs : List (Option CopyRule)). verdict_lines own 1 others judged ++ copy_lines own 1 others cs) h
