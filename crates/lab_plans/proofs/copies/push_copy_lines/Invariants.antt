use Rattle.std.proofs.Common.{◌≡◌, ◌++◌, ◌+◌, drop}
use Rattle.lab_plans.specs.Copies.{copy_lines}
use Rattle.lab_plans.proofs.copies.push_copy_lines.Given as goal

-- what is appended and what is left to append
abbrev pub invariant-loop-i : goal.invariant-loop-i
invariant-loop-i l =
    l.text.items ++ copy_lines l.lines (l.i + 1) (drop l.i l.blocks) (drop l.i l.verdicts) ≡ l.fn.text.items ++ copy_lines l.lines 1 l.blocks l.verdicts
