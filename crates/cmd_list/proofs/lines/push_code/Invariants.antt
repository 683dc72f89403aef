use Rattle.std.proofs.Common.{◌≡◌, ◌-◌, ◌++◌, length}
use Rattle.mx_text.specs.Text.{lines_from}
use Rattle.cmd_list.specs.Listing.{code_line, code_lines}
use Rattle.cmd_list.proofs.lines.push_code.Given as goal

abbrev pub invariant-loop-k : goal.invariant-loop-k
invariant-loop-k l =
    l.text.items ++ lines_from (code_line l.lines l.code l.origins) (length l.code - l.k) l.k
    ≡ l.fn.text.items ++ code_lines l.lines l.code l.origins
