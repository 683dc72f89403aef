use Rattle.std.proofs.Common.{◌≡◌, ◌++◌, drop}
use Rattle.mx_link.specs.Parts.{sites_of}
use Rattle.mx_plans.specs.Files.{lines_said}
use Rattle.mx_plans.specs.Copies.{copy_verdicts}
use Rattle.mx_plans.proofs.copies.copy_verdicts.Given as goal

abbrev pub invariant-loop-k : goal.invariant-loop-k
invariant-loop-k l =
    l.verdicts.items ++ copy_verdicts (sites_of l.layout) (drop l.k (sites_of l.layout)) (lines_said (drop l.k l.lines))
    ≡ copy_verdicts (sites_of l.layout) (sites_of l.layout) (lines_said l.lines)
