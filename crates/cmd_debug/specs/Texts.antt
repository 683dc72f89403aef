-- What is printed of a session.
use Rattle.std.specs.Prelude.{ℕ, suc, ◌++◌, List, [], ◌∷◌, length, codes, slice_index}
use Rattle.std.specs.Fmt.{decimal}
use Rattle.mx_text.specs.Text.{word_text, line, named_line, count_line, register_line, lines_from, word_line, console_lines}
use Rattle.mx_debug.specs.declared.Stop.{Stop}
use Rattle.mx_debug.specs.declared.Ending.{Ending}
use Rattle.mx_debug.specs.declared.Ending.TheVariants.{Stopped, Halted, OutOfBudget}

-- `stop J cycle C bytes B`
abbrev pub stop_line : ℕ → ℕ → ℕ → List ℕ
stop_line j cycle bytes =
    line (codes "stop " ++ decimal j ++ codes " cycle " ++ decimal cycle ++ codes " bytes " ++ decimal bytes)

-- `r1 X` to `r31 X` and `md X`
abbrev pub file_text : List ℕ → ℕ → List ℕ
file_text registers md =
    lines_from (λ n. register_line n (word_text (slice_index registers n))) 31 1 ++ named_line (codes "md") (word_text md)

-- a stop, where this data word is watched
abbrev pub stop_text : ℕ → ℕ → Stop → List ℕ
stop_text watch j stop =
    (stop_line j stop.cycle stop.bytes ++ file_text stop.registers stop.md) ++ word_line watch stop.word

-- stops, counted from j on
abbrev pub stops_text : ℕ → ℕ → List Stop → List ℕ
stops_text watch j [] = []
stops_text watch j (stop ∷ stops) = stop_text watch j stop ++ stops_text watch (suc j) stops

abbrev pub ending_text : Ending → List ℕ
ending_text Stopped = codes "stopped"
ending_text Halted = codes "halted"
ending_text OutOfBudget = codes "out of budget"

-- the stops, counted from 1, how the session ended, how many stops there were, and the console
unfoldable pub session_text : ℕ → List Stop → Ending → List ℕ → List ℕ
session_text watch stops ending console =
    ((stops_text watch 1 stops ++ line (ending_text ending)) ++ count_line (codes "stops") (length stops)) ++ console_lines console
