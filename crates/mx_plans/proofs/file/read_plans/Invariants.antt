use Rattle.std.proofs.Common.{◌≡◌, ◌+◌, ◌≤◌, length}
use Rattle.mx_plans.specs.Files.{plans_after, plans_in, lines_in, lines_said}
use Rattle.mx_plans.proofs.file.read_plans.Given as goal

abbrev pub invariant-lines : goal.invariant-lines
invariant-lines l =
    (plans_after l.blocks (lines_said l.lines.items) (lines_in l.left) ≡ plans_in l.blocks l.fn.text)
    × (length l.lines.items + length l.left ≤ length l.fn.text)

abbrev pub decreases-lines : goal.decreases-lines
decreases-lines l = length l.left
