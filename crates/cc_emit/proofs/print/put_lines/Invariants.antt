use Rattle.std.proofs.Common.{◌≡◌, ◌++◌, take}
use Rattle.cc_emit.specs.Lines.{lines_text}
use Rattle.cc_emit.proofs.print.put_lines.Given as goal

abbrev pub invariant-loop-line : goal.invariant-loop-line
invariant-loop-line l = l.text ≡ l.initial.text ++ lines_text l.program (take l.line-index l.lines)
