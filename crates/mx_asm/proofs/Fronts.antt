-- Loops that put what they read behind what they have.
use Rattle.std.proofs.Common.{◌≡◌, ℕ, ◌+◌, ◌<◌, List, [], ◌∷◌, ◌++◌, length, map, drop, get_or, Result, Ok, Err, refl, ap, sym, ◌∙◌, append_assoc}
use Rattle.std.proofs.lemmas.List.{at_drop_more}
use Rattle.mx_lines.specs.declared.fault.Fault.{Fault}
use Rattle.mx_lines.specs.Reading.{◌>>=◌}
use Rattle.mx_source.specs.declared.statement.Value.{Value}
use Rattle.mx_lines.specs.declared.word.Word.{Word as Lent}
use Rattle.mx_lines.specs.Instructions.{Labels}
use Rattle.mx_lines.specs.Shapes.{word}
use Rattle.mx_asm.specs.Directives.{cons, value_of, values_of}

-- a front before what is read
abbrev pub prepend : {A : Type 0} → List A → Result (List A) Fault → Result (List A) Fault
prepend front (Ok xs) = Ok (front ++ xs)
prepend front (Err fault) = Err fault

pub prepend-nil : {A : Type 0} (r : Result (List A) Fault) → prepend [] r ≡ r
prepend-nil (Ok xs) = refl
prepend-nil (Err fault) = refl

pub prepend-cons : {A : Type 0} (front : List A) (x : A) (r : Result (List A) Fault) → prepend front (cons x r) ≡ prepend (front ++ x ∷ []) r
prepend-cons front x (Ok xs) = ap Ok (sym (append_assoc front (x ∷ []) xs))
prepend-cons front x (Err fault) = refl

-- one more value is read
pub values_step : (labels : Labels) (words : List Lent) (i : ℕ) (d : Lent) (front : List Value) (v : Value) → i < length words
    → value_of labels (word (get_or words i d)) ≡ Ok v
    → prepend front (values_of labels (map word (drop i words))) ≡ prepend (front ++ v ∷ []) (values_of labels (map word (drop (i + 1) words)))
values_step labels words i d front v lt e =
    ap (prepend front) (at_drop_more (λ ws. values_of labels (map word ws)) words i d lt
    ∙ ap (λ r. r >>= λ v. cons v (values_of labels (map word (drop (i + 1) words)))) e)
    ∙ prepend-cons front v (values_of labels (map word (drop (i + 1) words)))
