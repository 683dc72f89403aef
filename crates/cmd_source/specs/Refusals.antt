-- The lines that tell what is wrong with a source.
use Rattle.std.specs.Prelude.{ℕ, ◌++◌, codes, List, ℤ, pos, ◌-ℤ◌}
use Rattle.std.specs.Fmt.{decimal, signed_decimal}
use Rattle.cmd_answer.specs.Answer.{text_line}
use Rattle.mx_lines.specs.declared.Fault.{Fault}
use Rattle.mx_lines.specs.FaultTexts.{fault_text}

-- the line of a faulty source
abbrev pub fault_line : ℕ → Fault → List ℕ
fault_line line f = text_line (codes "line " ++ decimal line ++ codes ": " ++ fault_text f)

abbrev pub displacement_text : ℕ → ℤ → List ℕ
displacement_text line displacement = codes "line " ++ decimal line ++ codes ": displacement " ++ signed_decimal displacement

abbrev pub span_text : ℕ → ℕ → List ℕ
span_text from to = codes " from " ++ decimal from ++ codes " to " ++ decimal to

-- a branch at one address, on this line, and its displacement to another
abbrev pub overlong_text : ℕ → ℤ → ℕ → ℕ → List ℕ
overlong_text line displacement from to = displacement_text line displacement ++ span_text from to

-- the line of a branch that does not reach its target; the displacement is one address minus the other
abbrev pub overlong_line : ℕ → ℕ → ℕ → List ℕ
overlong_line line from to = text_line (overlong_text line (pos to -ℤ pos from) from to)
