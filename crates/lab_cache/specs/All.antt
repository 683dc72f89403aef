-- What caches of any geometries stand for, those with the same lines side by side.
use Rattle.std.specs.Prelude.{◌≡◌, ℕ, List, [], ◌∷◌, ◌++◌, length, map, Some}
use Rattle.std.specs.List.{slice_get}
use Rattle.lab_terms.specs.declared.geometry.Geometry.{Geometry}
use Rattle.lab_terms.specs.Geometries.{saturated}
use Rattle.lab_cache.specs.declared.quick.QuickCache.{QuickCache}
use Rattle.lab_cache.specs.declared.alike.Caches.{Caches}
use Rattle.lab_cache.specs.declared.all.Counted.{Counted}
use Rattle.lab_cache.specs.Misses.{IsCache, misses_in}
use Rattle.lab_cache.specs.Alike.{AreHeld, CachesHold}

-- geometries of caches
abbrev pub AreCaches : List Geometry → Type 0
AreCaches gs = (k : ℕ) (g : Geometry) → slice_get gs k ≡ Some g → IsCache g

-- what a cache of a geometry counts over these fetches
abbrev pub counted : List ℕ → Geometry → Counted
counted past g = record { geometry = g; misses = saturated (misses_in g past) }

-- the groups of caches stand for these fetches, one after the other
abbrev pub AllHold : List Caches → List Geometry → List ℕ → Type 0
AllHold [] gs past = gs ≡ []
AllHold (c ∷ all) gs past = (front : List Geometry) × (rest : List Geometry) × (gs ≡ front ++ rest) × CachesHold c front past × AllHold all rest past

-- the same once each visit has ended
abbrev pub AllEnded : List Caches → List Geometry → List ℕ → Type 0
AllEnded [] gs past = gs ≡ []
AllEnded (c ∷ all) gs past =
    (front : List Geometry) × (rest : List Geometry) × (gs ≡ front ++ rest) × AreHeld front c.caches.items past × AllEnded all rest past

-- what the caches have counted
abbrev pub noted : QuickCache → Counted
noted quick = record { geometry = quick.cache.geometry; misses = quick.cache.misses }

abbrev pub noted_in : Caches → List Counted
noted_in c = map noted c.caches.items

-- the same caches after a fetch, and after their end
abbrev pub Fetches : ℕ → Caches → Caches → Type 0
Fetches a old new = (gs : List Geometry) (past : List ℕ) → CachesHold old gs past → CachesHold new gs (a ∷ past)

abbrev pub Ends : Caches → Caches → Type 0
Ends old new = (gs : List Geometry) (past : List ℕ) → CachesHold old gs past → AreHeld gs new.caches.items past

-- so it is for each
pub record Each (R : Caches → Caches → Type 0) (old new : List Caches) : Type 0 where
  pub number : length new ≡ length old
  pub each : (k : ℕ) (one other : Caches) → slice_get old k ≡ Some one → slice_get new k ≡ Some other → R one other
