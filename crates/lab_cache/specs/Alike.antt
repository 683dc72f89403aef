-- What caches side by side stand for, and the visit of a line that goes on.
use Rattle.std.specs.Prelude.{◌≡◌, ℕ, ◌*◌, ◌/◌, ◌%◌, ◌^◌, ◌<◌, ◌≤◌, ◌==◌, List, ◌++◌, length, Some}
use Rattle.std.specs.List.{All, list_any, slice_get}
use Rattle.lab_terms.specs.declared.geometry.Geometry.{Geometry}
use Rattle.mx_icache.specs.LineSets.{is_set}
use Rattle.lab_cache.specs.declared.quick.QuickCache.{QuickCache}
use Rattle.lab_cache.specs.declared.alike.Caches.{Caches}
use Rattle.lab_cache.specs.Misses.{IsCache}
use Rattle.lab_cache.specs.Quick.{QuickHolds, Visits}

-- geometries of caches whose lines have as many words, of which a miss brings as many
pub record AreAlike (line brings : ℕ) (gs : List Geometry) : Type 0 where
  pub some : 0 < line
  pub short : line ≤ 64
  pub brought : 0 < brings
  pub caches : (k : ℕ) (g : Geometry) → slice_get gs k ≡ Some g → IsCache g
  pub lines : (k : ℕ) (g : Geometry) → slice_get gs k ≡ Some g → g.line ≡ line
  pub groups : (k : ℕ) (g : Geometry) → slice_get gs k ≡ Some g → g.brings ≡ brings

-- for each word of a line the bit of its group
pub record AreBits (line brings : ℕ) (bits : List ℕ) : Type 0 where
  pub words : length bits ≡ line
  pub each : (w : ℕ) → w < line → slice_get bits w ≡ Some (2 ^ (w / brings))

-- caches of these geometries stand for these fetches, the newest first
pub record AreHeld (gs : List Geometry) (caches : List QuickCache) (past : List ℕ) : Type 0 where
  pub number : length caches ≡ length gs
  pub geometry : (k : ℕ) (quick : QuickCache) → slice_get caches k ≡ Some quick → slice_get gs k ≡ Some quick.cache.geometry
  pub each : (k : ℕ) (quick : QuickCache) → slice_get caches k ≡ Some quick → QuickHolds quick past

-- the same caches after a visit
pub record AllVisits (old new : List QuickCache) (l groups : ℕ) : Type 0 where
  pub number : length new ≡ length old
  pub each : (k : ℕ) (one other : QuickCache) → slice_get old k ≡ Some one → slice_get new k ≡ Some other → Visits one other l groups

-- caches stand for the fetches before a visit, which goes on
pub record IsGoing (c : Caches) (gs : List Geometry) (brings : ℕ) (before visit : List ℕ) : Type 0 where
  pub alike : AreAlike c.line brings gs
  pub bits : AreBits c.line brings c.bits.items
  pub caches : AreHeld gs c.caches.items before
  pub first : c.visit.first ≡ c.visit.line * c.line
  pub alone : All (λ a. a / c.line ≡ c.visit.line) visit
  pub groups : (j : ℕ) → is_set c.visit.groups j ≡ list_any (λ a. a % c.line / brings == j) visit

-- caches stand for these fetches, the newest first, of which the last may be a visit that goes on
pub record CachesHold (c : Caches) (gs : List Geometry) (past : List ℕ) : Type 0 where
  pub brings : ℕ
  pub before : List ℕ
  pub visit : List ℕ
  pub all : past ≡ visit ++ before
  pub going : IsGoing c gs brings before visit
