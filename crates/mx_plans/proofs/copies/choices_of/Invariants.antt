use Rattle.std.proofs.Common.{◌≡◌, ◌++◌, drop}
use Rattle.mx_plans.specs.Files.{lines_said}
use Rattle.mx_plans.specs.Copies.{choices_of}
use Rattle.mx_plans.proofs.copies.choices_of.Given as goal

abbrev pub invariant-loop-k : goal.invariant-loop-k
invariant-loop-k l =
    l.choices.items ++ choices_of (drop l.k l.blocks) (lines_said (drop l.k l.lines)) ≡ choices_of l.blocks (lines_said l.lines)
