-- Choices and verdicts, one line after the other; and the items of lines.
use Rattle.std.proofs.Common.{◌≡◌, ℕ, zero, suc, ◌+◌, ◌≤◌, min, List, [], ◌∷◌, ◌++◌, length, drop, append_assoc, append-nil, Option, Some, refl, ap, sym, subst, ◌∙◌, arith}
use Rattle.std.specs.Prelude.{slice_get}
use Rattle.std.proofs.lemmas.Bool.Decides.{nat_tests}
use Rattle.std.proofs.lemmas.Option.{none-some, same_Some}
use Rattle.mx_blocks.specs.declared.Block.{Block}
use Rattle.mx_squash.specs.declared.CopyRule.{CopyRule}
use Rattle.mx_squash.specs.Copies.{Site}
use Rattle.mx_plans.specs.declared.file.PlanLine.{PlanLine}
use Rattle.mx_plans.specs.Files.{LineSaid, lines_said, marks_of, marks_of_lines}
use Rattle.mx_plans.specs.Copies.{choices_of, copy_verdict, copy_verdicts}

pub marks_said : (lines : List PlanLine) → marks_of (lines_said lines) ≡ marks_of_lines lines
marks_said [] = refl
marks_said (l ∷ lines) = ap (λ ms. l.marks.items ∷ ms) (marks_said lines)

no_lines : (blocks : List Block) → choices_of blocks [] ≡ []
no_lines [] = refl
no_lines (b ∷ blocks) = refl

choices_left : (blocks : List Block) (lines : List PlanLine) (k : ℕ) → min (length blocks) (length lines) ≤ k
    → choices_of (drop k blocks) (lines_said (drop k lines)) ≡ []
choices_left [] lines zero few = refl
choices_left [] lines (suc k) few = refl
choices_left (b ∷ blocks) [] zero few = refl
choices_left (b ∷ blocks) [] (suc k) few = no_lines (drop k blocks)
choices_left (b ∷ blocks) (l ∷ lines) zero few = absurd (grind (arith, nat_tests))
choices_left (b ∷ blocks) (l ∷ lines) (suc k) few = choices_left blocks lines k (grind (arith, nat_tests))

-- past the last block or line there is nothing to choose
pub choices_end :
    (blocks : List Block) (lines : List PlanLine) (k : ℕ) (done : List (Option ℕ)) → min (length blocks) (length lines) ≤ k
    → done ++ choices_of (drop k blocks) (lines_said (drop k lines)) ≡ choices_of blocks (lines_said lines) → done ≡ choices_of blocks (lines_said lines)
choices_end blocks lines k done few h =
    sym (append-nil done) ∙ ap (λ (l : List (Option ℕ)). done ++ l) (sym (choices_left blocks lines k few)) ∙ h

no_more : (all sites : List Site) → copy_verdicts all sites [] ≡ []
no_more all [] = refl
no_more all (s ∷ sites) = refl

verdicts_left : (all sites : List Site) (lines : List PlanLine) (k : ℕ) → min (length sites) (length lines) ≤ k
    → copy_verdicts all (drop k sites) (lines_said (drop k lines)) ≡ []
verdicts_left all [] lines zero few = refl
verdicts_left all [] lines (suc k) few = refl
verdicts_left all (s ∷ sites) [] zero few = refl
verdicts_left all (s ∷ sites) [] (suc k) few = no_more all (drop k sites)
verdicts_left all (s ∷ sites) (l ∷ lines) zero few = absurd (grind (arith, nat_tests))
verdicts_left all (s ∷ sites) (l ∷ lines) (suc k) few = verdicts_left all sites lines k (grind (arith, nat_tests))

-- past the last site or line there is no verdict
pub verdicts_end :
    (all : List Site) (lines : List PlanLine) (k : ℕ) (done : List (Option CopyRule)) → min (length all) (length lines) ≤ k
    → done ++ copy_verdicts all (drop k all) (lines_said (drop k lines)) ≡ copy_verdicts all all (lines_said lines)
    → done ≡ copy_verdicts all all (lines_said lines)
verdicts_end all lines k done few h =
    sym (append-nil done) ∙ ap (λ (l : List (Option CopyRule)). done ++ l) (sym (verdicts_left all all lines k few)) ∙ h

verdicts_next :
    (all sites : List Site) (lines : List PlanLine) (k : ℕ) (s : Site) (l : PlanLine) → slice_get sites k ≡ Some s → slice_get lines k ≡ Some l
    → copy_verdicts all (drop k sites) (lines_said (drop k lines))
    ≡ copy_verdict all s l.copies ∷ copy_verdicts all (drop (suc k) sites) (lines_said (drop (suc k) lines))
verdicts_next all [] lines k s l e f = absurd (none-some s e)
verdicts_next all (t ∷ sites) [] k s l e f = absurd (none-some l f)
verdicts_next all (t ∷ sites) (m ∷ lines) zero s l e f =
    ap (λ (x : Site). copy_verdict all x m.copies ∷ copy_verdicts all sites (lines_said lines)) (same_Some t s e)
    ∙ ap (λ (x : PlanLine). copy_verdict all s x.copies ∷ copy_verdicts all sites (lines_said lines)) (same_Some m l f)
verdicts_next all (t ∷ sites) (m ∷ lines) (suc k) s l e f = verdicts_next all sites lines k s l e f

-- the verdict on one more line
pub verdict_pushed :
    (all : List Site) (lines : List PlanLine) (k : ℕ) (s : Site) (l : PlanLine) (done more : List (Option CopyRule)) (v : Option CopyRule)
    → slice_get all k ≡ Some s → slice_get lines k ≡ Some l → more ≡ done ++ v ∷ [] → v ≡ copy_verdict all s l.copies
    → done ++ copy_verdicts all (drop k all) (lines_said (drop k lines)) ≡ copy_verdicts all all (lines_said lines)
    → more ++ copy_verdicts all (drop (k + 1) all) (lines_said (drop (k + 1) lines)) ≡ copy_verdicts all all (lines_said lines)
verdict_pushed all lines k s l done more v e f pushed is h =
    let next : suc k ≡ k + 1 = omega arith in
    let rest = copy_verdicts all (drop (suc k) all) (lines_said (drop (suc k) lines)) in
    subst (λ (n : ℕ). more ++ copy_verdicts all (drop n all) (lines_said (drop n lines)) ≡ copy_verdicts all all (lines_said lines)) next
    (ap (λ (x : List (Option CopyRule)). x ++ rest) pushed
    ∙ append_assoc done (v ∷ []) rest
    ∙ ap (λ (x : Option CopyRule). done ++ x ∷ rest) is
    ∙ ap (λ (x : List (Option CopyRule)). done ++ x) (sym (verdicts_next all all lines k s l e f))
    ∙ h)
