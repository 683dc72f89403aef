use Rattle.std.proofs.Common.{◌≡◌, List, [], ◌++◌, length}
use Rattle.lab_terms.specs.declared.geometry.Geometry.{Geometry}
use Rattle.lab_cache.specs.All.{AreCaches, AllHold}
use Rattle.lab_cache.proofs.all.push_all.Given as goal

-- the caches of the geometries so far are added
abbrev pub invariant-loop-first : goal.invariant-loop-first
invariant-loop-first l = (front : List Geometry) × (l.geometries ≡ front ++ l.rest)
    × (AreCaches l.geometries → l.fn.all.items ≡ [] → AllHold l.all.items front [])

abbrev pub decreases-loop-first : goal.decreases-loop-first
decreases-loop-first l = length l.rest
