-- The lines of a trace.
use Rattle.std.specs.Prelude.{ℕ, Bool, List, [], ◌∷◌, ◌++◌, codes, cond}
use Rattle.std.specs.Fmt.{decimal}
use Rattle.mx_text.specs.Text.{word_text, line}
use Rattle.mx_turn.specs.declared.Stage.{Stage}
use Rattle.mx_turn.specs.declared.Stage.TheVariants.{Empty, Live, Squashed}
use Rattle.mx_turn.specs.declared.Latches.{Latches}
use Rattle.mx_turn.specs.declared.Cycled.{Cycled}

-- a stage: its address, with a star where it is squashed, or dashes
abbrev pub stage_text : Stage → List ℕ
stage_text Empty = codes "--------"
stage_text (Live a) = word_text a
stage_text (Squashed a) = word_text a ++ 42 ∷ []

abbrev pub spaced : List ℕ → List ℕ
spaced text = 32 ∷ text

abbrev pub stages_text : Latches → List ℕ
stages_text l =
    (((spaced (stage_text l.fetch) ++ spaced (stage_text l.rf)) ++ spaced (stage_text l.alu)) ++ spaced (stage_text l.mem))
    ++ spaced (stage_text l.wb)

abbrev pub numbers_text : Latches → List ℕ
numbers_text l = (spaced (word_text l.a) ++ spaced (word_text l.b)) ++ spaced (word_text l.result)

-- the line of a cycle, from 0: the five stages and the three numbers of the word in ALU, or that it was stalled
abbrev pub line_of : ℕ → Bool → Latches → List ℕ
line_of cycle stalled l = line (decimal cycle ++ cond stalled (codes " stall") (stages_text l ++ numbers_text l))

abbrev pub trace_line : ℕ → Cycled → Latches → List ℕ
trace_line cycle cycled l = line_of cycle cycled.stalled l
