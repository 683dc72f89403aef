-- The labels at the front of a line, one after another.
use Rattle.std.proofs.Common.{◌≡◌, ℕ, List, ◌∷◌, map, take, drop, length, ◌-◌, Bool, true, false, ◌||◌, refl, ap, sym, ◌∙◌}
use Rattle.std.proofs.lemmas.Bool.{false≢true}
use Rattle.std.proofs.lemmas.List.{drop-map, take_rest}
use Rattle.mx_source.specs.declared.statement.Label.{Label}
use Rattle.mx_lines.specs.declared.word.Word.{Word as Lent}
use Rattle.mx_lines.specs.Words.{Word, Name, Colon}
use Rattle.mx_lines.specs.Shapes.{word}
use Rattle.mx_lines.specs.Instructions.{Labels}
use Rattle.mx_asm.specs.Positions.{begins_label, first_name, define, define_front, is_defined, is_repeated}

define_next : (labels : Labels) (l : Label) (ws : List Word) → begins_label ws ≡ true
    → define_front labels l ws ≡ define_front (define labels l (first_name ws)) l (drop 2 ws)
define_next labels l (Name name ∷ Colon ∷ ws) h = refl
define_next labels l _ h = absurd (false≢true h)

define_done : (labels : Labels) (l : Label) (ws : List Word) → begins_label ws ≡ false → define_front labels l ws ≡ labels
define_done labels l (Name name ∷ Colon ∷ ws) h = absurd (false≢true (sym h))
define_done labels l _ h = refl

repeat_next : (labels : Labels) (l : Label) (ws : List Word) → begins_label ws ≡ true
    → is_repeated labels l ws ≡ is_defined labels (first_name ws) || is_repeated (define labels l (first_name ws)) l (drop 2 ws)
repeat_next labels l (Name name ∷ Colon ∷ ws) h = refl
repeat_next labels l _ h = absurd (false≢true h)

or_assoc : (a b c : Bool) → (a || b) || c ≡ a || (b || c)
or_assoc true b c = refl
or_assoc false b c = refl

-- one more label at the front
front_step' : (labels labels' all : Labels) (l : Label) (ws : List Lent) (name : List ℕ) (repeated found any : Bool) → begins_label (map word ws) ≡ true
    → name ≡ first_name (map word ws) → labels' ≡ define labels l name → found ≡ is_defined labels name
    → define_front labels l (map word ws) ≡ all → repeated || is_repeated labels l (map word ws) ≡ any
    → (define_front labels' l (map word (drop 2 ws)) ≡ all) × ((repeated || found) || is_repeated labels' l (map word (drop 2 ws)) ≡ any)
front_step' labels labels' all l ws name repeated found any begins first ls fs whole answer =
    let named = ls ∙ ap (define labels l) first in
    let known = fs ∙ ap (is_defined labels) first in
    let rest = drop-map word 2 ws in (
      ap (λ k. define_front k l (map word (drop 2 ws))) named
          ∙ ap (define_front (define labels l (first_name (map word ws))) l) (sym rest)
          ∙ sym (define_next labels l (map word ws) begins) ∙ whole,
      or_assoc repeated found (is_repeated labels' l (map word (drop 2 ws)))
          ∙ ap (λ b. repeated || (b || is_repeated labels' l (map word (drop 2 ws)))) known
          ∙ ap (λ k. repeated || (is_defined labels (first_name (map word ws)) || is_repeated k l (map word (drop 2 ws)))) named
          ∙ ap (λ r. repeated || (is_defined labels (first_name (map word ws)) || is_repeated (define labels l (first_name (map word ws))) l r)) (sym rest)
          ∙ ap (λ b. repeated || b) (sym (repeat_next labels l (map word ws) begins)) ∙ answer,
    )

-- the same, as the loop has what is left
pub front_step : (labels labels' all : Labels) (l : Label) (ws : List Lent) (name : List ℕ) (repeated found any : Bool) → begins_label (map word ws) ≡ true
    → name ≡ first_name (map word ws) → labels' ≡ define labels l name → found ≡ is_defined labels name
    → define_front labels l (map word ws) ≡ all → repeated || is_repeated labels l (map word ws) ≡ any
    → (define_front labels' l (map word (take (length ws - 2) (drop 2 ws))) ≡ all) × ((repeated || found) || is_repeated labels' l
    (map word (take (length ws - 2) (drop 2 ws))) ≡ any)
front_step labels labels' all l ws name repeated found any begins first ls fs whole answer =
    let left : take (length ws - 2) (drop 2 ws) ≡ drop 2 ws = take_rest ws 2 in
    rw left (front_step' labels labels' all l ws name repeated found any begins first ls fs whole answer)
