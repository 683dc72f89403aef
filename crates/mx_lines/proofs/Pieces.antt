-- The lines of a text, one after another.
use Rattle.std.proofs.Common.{◌≡◌, ℕ, suc, ◌+◌, ◌<◌, List, [], ◌∷◌, ◌++◌, length, take, drop, map, Bool, true, false, cond, eqb, refl, ap, sym, ◌∙◌, arith, add-one, append_assoc, Bor}
use Rattle.std.proofs.lemmas.List.{map-append, append-nil}
use Rattle.mx_lex.specs.Lines.{pieces, onto_first, line_len, without_return, lines_of}
use Rattle.mx_lines.specs.Words.{texts}

split : (b : ℕ) (bs : List ℕ) (at : Bool) → onto_first b (pieces bs) ≡ (b ∷ take (line_len bs) bs) ∷ pieces (drop (suc (line_len bs)) bs)
    → cond at ([] ∷ pieces bs) (onto_first b (pieces bs)) ≡ take (cond at 0 (suc (line_len bs))) (b ∷ bs) ∷ pieces
    (drop (suc (cond at 0 (suc (line_len bs)))) (b ∷ bs))
split b bs true h = refl
split b bs false h = h

-- the first line of a text that is not empty, and the lines behind it
first_of : (b : ℕ) (bs : List ℕ) → pieces (b ∷ bs) ≡ take (line_len (b ∷ bs)) (b ∷ bs) ∷ pieces (drop (suc (line_len (b ∷ bs))) (b ∷ bs))
first_of b [] = split b [] (eqb b 10) refl
first_of b (c ∷ cs) = split b (c ∷ cs) (eqb b 10) (ap (onto_first b) (first_of c cs))

pub first_piece : (text : List ℕ) → 0 < length text → pieces text ≡ take (line_len text) text ∷ pieces (drop (line_len text + 1) text)
first_piece [] h = absurd (omega arith)
first_piece (b ∷ bs) h = rw add-one (first_of b bs)

-- one more line is taken
pub lines_step : (done done' : List (Bor (List ℕ))) (new : Bor (List ℕ)) (rest rest' : List ℕ) (all : List (List ℕ)) → 0 < length rest
    → texts done ++ map without_return (pieces rest) ≡ all → done' ≡ done ++ new ∷ [] → new.now ≡ without_return (take (line_len rest) rest)
    → rest' ≡ drop (line_len rest + 1) rest
    → texts done' ++ map without_return (pieces rest') ≡ all
lines_step done done' new rest rest' all some same more line left =
    ap (λ d. texts d ++ map without_return (pieces rest')) more
    ∙ ap (λ t. t ++ map without_return (pieces rest')) (map-append (λ (l : Bor (List ℕ)). l.now) done (new ∷ []))
    ∙ append_assoc (texts done) (new.now ∷ []) (map without_return (pieces rest'))
    ∙ ap (λ l. texts done ++ (l ∷ map without_return (pieces rest'))) line
    ∙ ap (λ r. texts done ++ (without_return (take (line_len rest) rest) ∷ map without_return (pieces r))) left
    ∙ ap (λ ps. texts done ++ map without_return ps) (sym (first_piece rest some))
    ∙ same

pub lines_end : (done : List (Bor (List ℕ))) (rest text : List ℕ) → length rest ≡ 0
    → texts done ++ map without_return (pieces rest) ≡ map without_return (pieces text) → texts done ≡ lines_of text
unfolding lines_of
lines_end done [] text h same = sym (append-nil (texts done)) ∙ same
lines_end done (b ∷ rest) text h same = absurd (omega (arith, h))

-- the first line of a text that is not empty, and the lines behind it
pub first_line : (text line rest : List ℕ) → 0 < length text → line ≡ without_return (take (line_len text) text) → rest ≡ drop (line_len text + 1) text
    → lines_of text ≡ line ∷ lines_of rest
unfolding lines_of
first_line text line rest some here left =
    ap (map without_return) (first_piece text some)
    ∙ ap (λ l. l ∷ map without_return (pieces (drop (line_len text + 1) text))) (sym here)
    ∙ ap (λ r. line ∷ map without_return (pieces r)) (sym left)

-- no bytes have no lines
pub no_lines : (text : List ℕ) → length text ≡ 0 → lines_of text ≡ []
unfolding lines_of
no_lines [] h = refl
no_lines (b ∷ text) h = absurd (omega (arith, h))
