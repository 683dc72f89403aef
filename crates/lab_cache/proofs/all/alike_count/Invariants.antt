use Rattle.std.proofs.Common.{◌≡◌, ℕ, ◌<◌, Some, slice_get}
use Rattle.lab_terms.specs.declared.geometry.Geometry.{Geometry}
use Rattle.lab_cache.proofs.all.alike_count.Given as goal

abbrev pub invariant-loop-count : goal.invariant-loop-count
invariant-loop-count l = ((k : ℕ) (g : Geometry) → k < l.count → slice_get l.rest k ≡ Some g → g.line ≡ l.line)
    × ((k : ℕ) (g : Geometry) → k < l.count → slice_get l.rest k ≡ Some g → g.brings ≡ l.brings)
