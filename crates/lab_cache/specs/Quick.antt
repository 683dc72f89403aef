-- What a cache that is asked only where it may miss stands for.
use Rattle.std.specs.Prelude.{◌≡◌, ℕ, true, ◌&&◌, List, ◌++◌, slice_index}
use Rattle.mx_icache.specs.LineSets.{is_set}
use Rattle.lab_cache.specs.declared.quick.QuickCache.{QuickCache}
use Rattle.lab_cache.specs.Misses.{IsCache, is_held, fetched_since}
use Rattle.lab_cache.specs.Visits.{IsVisit}
use Rattle.lab_cache.specs.Sets.{CacheHolds}

-- a cache stands for these fetches, and each group that is known to be valid is
pub record QuickHolds (quick : QuickCache) (past : List ℕ) : Type 0 where
  pub is : IsCache quick.cache.geometry
  pub cache : CacheHolds quick.cache past
  pub known : (l j : ℕ) → is_set (slice_index quick.known.items l) j ≡ true
      → (is_held quick.cache.geometry past l && fetched_since quick.cache.geometry past l j) ≡ true

-- the same cache after a visit
pub record Visits (old new : QuickCache) (l groups : ℕ) : Type 0 where
  pub geometry : new.cache.geometry ≡ old.cache.geometry
  pub next : (past visit : List ℕ) → IsVisit old.cache.geometry l groups visit → QuickHolds old past → QuickHolds new (visit ++ past)
