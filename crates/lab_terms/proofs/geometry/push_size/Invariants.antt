use Rattle.std.proofs.Common.{◌≡◌, ◌++◌, take}
use Rattle.lab_terms.specs.Geometries.{of_size}
use Rattle.lab_terms.proofs.geometry.push_size.Given as goal

-- those of the ways so far are added
abbrev pub invariant-loop-ways : goal.invariant-loop-ways
invariant-loop-ways l = l.all.items ≡ l.fn.all.items ++ of_size l.size (take l.ways-index l.numbers) l.line l.brings l.penalty
