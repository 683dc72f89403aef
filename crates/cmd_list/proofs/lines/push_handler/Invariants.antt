use Rattle.std.proofs.Common.{◌≡◌, ◌-◌, ◌++◌, length}
use Rattle.mx_text.specs.Text.{lines_from}
use Rattle.cmd_list.specs.Listing.{handler_line, handler_lines}
use Rattle.cmd_list.proofs.lines.push_handler.Given as goal

abbrev pub invariant-loop-a : goal.invariant-loop-a
invariant-loop-a l =
    l.text.items ++ lines_from (handler_line l.words) (length l.words - l.a) l.a
    ≡ l.fn.text.items ++ handler_lines l.words
