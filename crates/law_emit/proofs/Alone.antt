-- A text without the ends of lines is a line.
use Rattle.std.proofs.Common.{◌≡◌, ℕ, zero, suc, ◌-◌, Bool, true, false, cond, eqb, ◌||◌, ◌&&◌, List, [], ◌∷◌, ◌++◌, length, take, map, get_or, refl, ap, ◌∙◌, arith, append_assoc}
use Rattle.std.specs.Prelude.{not, codes}
use Rattle.std.specs.List.{list_all}
use Rattle.std.proofs.lemmas.Bool.Decides.{nat_tests}
use Rattle.std.proofs.lemmas.List.Folds.{list_all-append}
use Rattle.mx_lex.specs.Lines.{lines_of, pieces, onto_first, without_return}
use Rattle.mx_lines.proofs.Clean.{is_clean}
use Rattle.mx_asm.proofs.Spelled.{and_both}
use Rattle.law_emit.specs.Reading.{is_one_line}

abbrev pub goes_on : ℕ → Bool
goes_on b = not (eqb b 10 || eqb b 13)

not_10 : (b : ℕ) → goes_on b ≡ true → eqb b 10 ≡ false
not_10 b h = grind (arith, nat_tests)

not_13 : (b : ℕ) → goes_on b ≡ true → eqb b 13 ≡ false
not_13 b h = grind (arith, nat_tests)

first_piece : (line rest : List ℕ) → is_one_line line ≡ true → pieces (line ++ 10 ∷ rest) ≡ line ∷ pieces rest
first_piece [] rest h = refl
first_piece (b ∷ line) rest h =
    let both = and_both (goes_on b) (is_one_line line) h in
    ap (λ t. cond t ([] ∷ pieces (line ++ 10 ∷ rest)) (onto_first b (pieces (line ++ 10 ∷ rest)))) (not_10 b both.0)
    ∙ ap (onto_first b) (first_piece line rest both.1)

no_return : (line : List ℕ) (k : ℕ) → is_one_line line ≡ true → eqb (get_or line k 0) 13 ≡ false
no_return [] k h = refl
no_return (b ∷ line) zero h = not_13 b (and_both (goes_on b) (is_one_line line) h).0
no_return (b ∷ line) (suc k) h = no_return line k (and_both (goes_on b) (is_one_line line) h).1

pub alone : (line : List ℕ) → is_one_line line ≡ true → (rest : List ℕ) → lines_of (line ++ codes "\n" ++ rest) ≡ line ∷ lines_of rest
unfolding lines_of
alone line h rest =
    ap lines_of (append_assoc line (10 ∷ []) rest)
    ∙ ap (map without_return) (first_piece line rest h)
    ∙ ap (λ t. cond t (take (length line - 1) line) line ∷ map without_return (pieces rest)) (no_return line (length line - 1) h)

clean_goes_on : (b : ℕ) → is_clean b ≡ true → goes_on b ≡ true
clean_goes_on b h = grind (arith, nat_tests)

pub from_clean : (line : List ℕ) → list_all is_clean line ≡ true → is_one_line line ≡ true
from_clean [] h = refl
from_clean (b ∷ line) h =
    let both = and_both (is_clean b) (list_all is_clean line) h in
    ap (λ t. t && is_one_line line) (clean_goes_on b both.0) ∙ from_clean line both.1

pub both_lines : (line more : List ℕ) → is_one_line line ≡ true → is_one_line more ≡ true → is_one_line (line ++ more) ≡ true
both_lines line more h k = list_all-append goes_on line more ∙ ap (λ t. t && is_one_line more) h ∙ k
