use Rattle.std.proofs.Common.{◌≡◌, length}
use Rattle.mx_module.specs.Links.{has_two_dots}
use Rattle.mx_module.proofs.link.has_two_dots.Given as goal

abbrev pub invariant-loop-rest : goal.invariant-loop-rest
invariant-loop-rest l = has_two_dots l.rest ≡ has_two_dots l.name

abbrev pub decreases-loop-rest : goal.decreases-loop-rest
decreases-loop-rest l = length l.rest
