-- What the places of a set, and the sets of a cache, stand for.
use Rattle.std.specs.Prelude.{◌≡◌, ℕ, ◌<◌, List, length, Some}
use Rattle.std.specs.List.{slice_get}
use Rattle.lab_terms.specs.declared.geometry.Geometry.{Geometry}
use Rattle.lab_terms.specs.Geometries.{saturated}
use Rattle.mx_icache.specs.LineSets.{is_set}
use Rattle.lab_cache.specs.declared.set.Held.{Held}
use Rattle.lab_cache.specs.declared.set.Set.{Set}
use Rattle.lab_cache.specs.declared.cache.Cache.{Cache}
use Rattle.lab_cache.specs.Misses.{allocated, fetched_since, misses_in}

-- place i of set s holds the line allocated there, the newest in the first, and the groups that were fetched since then
pub record PlaceHolds (g : Geometry) (past : List ℕ) (s i : ℕ) (held : Held) : Type 0 where
  pub line : held.line ≡ slice_get (allocated g past s) i
  pub groups : (l j : ℕ) → held.line ≡ Some l → j < 64 → is_set held.valid j ≡ fetched_since g past l j

-- a set has a place for each way
pub record SetHolds (g : Geometry) (set : Set) (past : List ℕ) (s : ℕ) : Type 0 where
  pub ways : length set.places.items ≡ g.ways
  pub places : (i : ℕ) (held : Held) → slice_get set.places.items i ≡ Some held → PlaceHolds g past s i held

-- a cache stands for these fetches, the newest first
pub record CacheHolds (cache : Cache) (past : List ℕ) : Type 0 where
  pub sets : length cache.sets.items ≡ cache.geometry.sets
  pub each : (s : ℕ) (set : Set) → slice_get cache.sets.items s ≡ Some set → SetHolds cache.geometry set past s
  pub misses : cache.misses ≡ saturated (misses_in cache.geometry past)
