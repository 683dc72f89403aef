-- The line of a plan that is rejected, or of its copies.
use Rattle.std.specs.Prelude.{ℕ, List, ◌++◌, codes}
use Rattle.std.specs.Fmt.{decimal}
use Rattle.mx_text.specs.Text.{line}

-- its line in the file, the line on which its block begins in the source, and the rule with what it asks for
abbrev pub rejected_line : ℕ → ℕ → List ℕ → List ℕ
rejected_line number at rule =
    ((((codes "plan " ++ decimal number) ++ codes " (line ") ++ decimal at) ++ codes ") rejected by ") ++ line rule
