use Rattle.std.proofs.Common.{◌≡◌, ℕ, [], Some, length, slice_get}
use Rattle.lab_cache.specs.declared.quick.QuickCache.{QuickCache}
use Rattle.lab_cache.specs.Misses.{IsCache}
use Rattle.lab_cache.specs.Quick.{QuickHolds}
use Rattle.lab_cache.proofs.alike.caches_of.Given as goal

abbrev pub invariant-loop-geometry : goal.invariant-loop-geometry
invariant-loop-geometry l = (length l.caches.items ≡ l.geometry-index)
    × ((k : ℕ) (quick : QuickCache) → slice_get l.caches.items k ≡ Some quick
    → (slice_get l.geometries k ≡ Some quick.cache.geometry) × (IsCache quick.cache.geometry → QuickHolds quick []))
