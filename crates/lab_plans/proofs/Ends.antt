-- At the end of a list of verdicts no line is left.
use Rattle.std.proofs.Common.{◌≡◌, ◌≤◌, ◌+◌, ℕ, zero, suc, List, [], ◌∷◌, ◌++◌, length, drop, append-nil, Option, refl, ap, sym, ◌∙◌, arith}
use Rattle.mx_blocks.specs.declared.Block.{Block}
use Rattle.mx_squash.specs.declared.CopyRule.{CopyRule}
use Rattle.lab_plans.specs.Copies.{copy_lines}

none_left : (verdicts : List (Option CopyRule)) (i : ℕ) → length verdicts ≤ i → drop i verdicts ≡ []
none_left [] zero few = refl
none_left [] (suc i) few = refl
none_left (v ∷ verdicts) zero few = absurd (omega arith)
none_left (v ∷ verdicts) (suc i) few = none_left verdicts i (omega arith)

no_lines : (lines : List ℕ) (number : ℕ) (blocks : List Block) → copy_lines lines number blocks [] ≡ []
no_lines lines number [] = refl
no_lines lines number (b ∷ blocks) = refl

pub copies_end :
    (lines : List ℕ) (blocks : List Block) (verdicts : List (Option CopyRule)) (i : ℕ) (text wanted : List ℕ) → length verdicts ≤ i
    → text ++ copy_lines lines (i + 1) (drop i blocks) (drop i verdicts) ≡ wanted → text ≡ wanted
copies_end lines blocks verdicts i text wanted few h =
    let none : copy_lines lines (i + 1) (drop i blocks) (drop i verdicts) ≡ [] =
    ap (λ (vs : List (Option CopyRule)). copy_lines lines (i + 1) (drop i blocks) vs) (none_left verdicts i few) ∙ no_lines lines (i + 1) (drop i blocks) in
    sym (append-nil text) ∙ ap (λ (l : List ℕ). text ++ l) (sym none) ∙ h
