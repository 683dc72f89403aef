-- Consecutive fetches from one line.
use Rattle.std.specs.Prelude.{◌≡◌, ◌≢◌, ℕ, ◌-◌, ◌==◌, if◌then◌else◌, List, [], Option, None}
use Rattle.std.specs.List.{All, list_any, slice_get}
use Rattle.lab_terms.specs.declared.geometry.Geometry.{Geometry}
use Rattle.mx_icache.specs.LineSets.{is_set}
use Rattle.lab_cache.specs.Misses.{line_of, group_of, set_of, allocated, is_held}

-- a visit of a line fetches at least one word, from this line alone, and has a bit for each group of the words that it fetches
pub record IsVisit (g : Geometry) (l groups : ℕ) (visit : List ℕ) : Type 0 where
  pub some : visit ≢ []
  pub alone : All (λ a. line_of g a ≡ l) visit
  pub bits : (j : ℕ) → is_set groups j ≡ list_any (λ a. group_of g a == j) visit

-- the line that has to go when one is fetched that is not held: the first of the last that were allocated in its set
abbrev pub gone : Geometry → List ℕ → ℕ → Option ℕ
gone g past l = if is_held g past l then None else slice_get (allocated g past (set_of g l)) (g.ways - 1)
