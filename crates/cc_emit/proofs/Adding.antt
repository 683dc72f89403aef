-- Lines that were added, with their text.
use Rattle.std.proofs.Common.{◌≡◌, ℕ, zero, suc, ◌+◌, ◌<◌, ◌≤◌, Bool, true, false, cond, List, [], ◌∷◌, ◌++◌, length, take, map, get_or, Some, None, refl, sym, ap, ◌∙◌, append_assoc}
use Rattle.std.specs.Prelude.{replicate, codes}
use Rattle.std.specs.List.{flat_map}
use Rattle.std.specs.Borrow.{Bor}
use Rattle.std.proofs.lemmas.List.{append-nil, flat_map_more, take_more, take_all}
use Rattle.std.proofs.lemmas.List.Concat.{flat_map-append}
use Rattle.cc_program.specs.declared.program.Program.{Program}
use Rattle.cc_emit.specs.declared.line.Line.{Line}
use Rattle.cc_emit.specs.declared.line.Line.TheVariants.{Written}
use Rattle.cc_emit.specs.declared.line.Routine.{Routine}
use Rattle.cc_emit.specs.Lines.{line_text, lines_text}
use Rattle.cc_emit.specs.Needs.{has_routine}
use Rattle.cc_emit.specs.Routines.{Adds, row_lines, rows_seen, shifts_lines, assembly_of, assembly_text, text_of, routine_text, called_text, called_texts, routines_text, all_routines}

-- the text of written lines
repeated : (p : Program) (n : ℕ) (w : Bor (List ℕ)) → lines_text p (replicate n (Written w)) ≡ flat_map (λ t. t ++ codes "\n") (replicate n w.now)
repeated p zero w = refl
repeated p (suc n) w = ap (λ t. (w.now ++ codes "\n") ++ t) (repeated p n w)

rows_text : (p : Program) (rows : List (ℕ × Bor (List ℕ))) → lines_text p (flat_map row_lines rows) ≡ assembly_text (rows_seen rows)
rows_text p [] = refl
rows_text p (row ∷ rows) =
    flat_map-append (line_text p) (row_lines row) (flat_map row_lines rows)
    ∙ (ap (λ t. t ++ lines_text p (flat_map row_lines rows)) (repeated p row.0 row.1)
    ∙ ap (λ t. flat_map (λ t. t ++ codes "\n") (replicate row.0 row.1.now) ++ t) (rows_text p rows))

-- the lines of a routine
pub adds_rows : (before after : List Line) (rows : List (ℕ × Bor (List ℕ))) (which : Routine) → Some (rows_seen rows) ≡ assembly_of which
    → after ≡ before ++ flat_map row_lines rows → Adds before after (λ p. routine_text p which)
adds_rows before after rows which e h = (flat_map row_lines rows, h, λ p. rows_text p rows ∙ ap (text_of p which) e)

pub adds_shifts : (before after : List Line) (which : Routine) → None ≡ assembly_of which → after ≡ before ++ shifts_lines which 32
    → Adds before after (λ p. routine_text p which)
adds_shifts before after which e h = (shifts_lines which 32, h, λ p. ap (text_of p which) e)

-- those of a routine that is called, and none of another
pub adds_called : (before after : List Line) (called : List Routine) (which : Routine) → has_routine which called ≡ true
    → Adds before after (λ p. routine_text p which) → Adds before after (λ p. called_text called p which)
adds_called before after called which e h = (h.0, h.1, λ p. h.2 p ∙ ap (λ b. cond b (routine_text p which) []) (sym e))

pub adds_uncalled : (lines : List Line) (called : List Routine) (which : Routine) → has_routine which called ≡ false
    → Adds lines lines (λ p. called_text called p which)
adds_uncalled lines called which e = ([], sym (append-nil lines), λ p. ap (λ b. cond b (routine_text p which) []) (sym e))

-- no routine, one more routine, and all of them
pub adds_none : (lines : List Line) (called : List Routine) → Adds lines lines (called_texts called [])
adds_none lines called = ([], sym (append-nil lines), λ p. refl)

pub adds_more : (before now after : List Line) (called here : List Routine) (routines : List Routine) (i : ℕ) (d : Routine) → here ≡ called
    → i < length routines → Adds before now (called_texts called (take i routines))
    → Adds now after (λ p. called_text here p (get_or routines i d)) → Adds before after (called_texts called (take (i + 1) routines))
adds_more before now after called here routines i d same lt h k = (h.0 ++ k.0, k.1 ∙ ap (λ t. t ++ k.0) h.1 ∙ append_assoc before h.0 k.0, text)
  where
    text : (p : Program) → lines_text p (h.0 ++ k.0) ≡ called_texts called (take (i + 1) routines) p
    text p =
        flat_map-append (line_text p) h.0 k.0
        ∙ ap (λ t. t ++ lines_text p k.0) (h.2 p)
        ∙ ap (λ t. called_texts called (take i routines) p ++ t) (k.2 p ∙ ap (λ r. called_text r p (get_or routines i d)) same)
        ∙ flat_map_more (called_text called p) [] (take i routines) (get_or routines i d)
        ∙ ap (flat_map (called_text called p)) (sym (take_more routines i d lt))

pub adds_all : (before after : List Line) (called : List Routine) (routines : List Routine) (i : ℕ) → length routines ≤ i
    → Adds before after (called_texts called (take i routines)) → Adds before after (called_texts called routines)
adds_all before after called routines i h k =
    (k.0, k.1, λ p. k.2 p ∙ ap (flat_map (called_text called p)) (take_all i routines h))

-- those of a program whose routines were noted before
pub adds_noted : (old now after : List Line) (needed noted : List Routine) → now ≡ old → noted ≡ needed → Adds now after (called_texts noted all_routines)
    → Adds old after (routines_text needed)
adds_noted old now after needed noted e n h =
    (h.0, h.1 ∙ ap (λ t. t ++ h.0) e, λ p. h.2 p ∙ ap (λ r. called_texts r all_routines p) n)
