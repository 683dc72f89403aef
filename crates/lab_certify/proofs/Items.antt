-- The items of a plan's line are its pieces that have bytes.
use Rattle.std.proofs.Common.{◌≡◌, ℕ, List, [], ◌∷◌, Result, Ok, Err, refl}
use Rattle.mx_plans.specs.declared.Mark.{Mark}
use Rattle.mx_plans.specs.declared.PlanFault.{PlanFault}
use Rattle.mx_plans.specs.Files.{pieces_in, and_then, after_piece, marks_after, line_marks}
use Rattle.lab_certify.specs.Texts.{words_of, words_in}

same_then :
    {A B : Type 0} (next other : A → Result B PlanFault) → ((x : A) → next x ≡ other x) → (r : Result A PlanFault) → and_then r next ≡ and_then r other
same_then next other h (Ok x) = h x
same_then next other h (Err fault) = refl

marks_of_words : (marks : List Mark) (pieces : List (List ℕ)) → marks_after marks (words_of pieces) ≡ marks_after marks pieces
marks_of_words marks [] = refl
marks_of_words marks ([] ∷ pieces) = marks_of_words marks pieces
marks_of_words marks ((c ∷ word) ∷ pieces) =
    same_then (λ more. marks_after more (words_of pieces)) (λ more. marks_after more pieces) (λ more. marks_of_words more pieces)
    (after_piece marks (c ∷ word))

pub line_marks_words : (line : List ℕ) → marks_after [] (words_in line) ≡ line_marks line
line_marks_words line = marks_of_words [] (pieces_in line)
