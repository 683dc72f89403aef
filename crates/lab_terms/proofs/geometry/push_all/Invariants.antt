use Rattle.std.proofs.Common.{◌≡◌, ◌++◌, take}
use Rattle.lab_terms.specs.Geometries.{looked_at}
use Rattle.lab_terms.proofs.geometry.push_all.Given as goal

-- the caches of the sizes so far are added
abbrev pub invariant-loop-size : goal.invariant-loop-size
invariant-loop-size l = l.all.items ≡ l.fn.all.items ++ looked_at (take l.size-index l.sizes) l.numbers l.line l.brings l.penalty
