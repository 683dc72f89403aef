-- What caches make of a run.
use Rattle.std.specs.Prelude.{◌≡◌, ℕ, ◌+◌, ◌*◌, List, [], length, map}
use Rattle.lab_terms.specs.declared.geometry.Geometry.{Geometry}
use Rattle.lab_terms.specs.declared.geometry.TheConstants.{SHIPPED_CACHE}
use Rattle.lab_terms.specs.Geometries.{cycles_with}
use Rattle.lab_cache.specs.declared.all.Counted.{Counted}
use Rattle.lab_cache.specs.Misses.{misses_in}
use Rattle.lab_cache.specs.All.{AreCaches}
use Rattle.mx_turn.specs.Program.{Program}
use Rattle.mx_turn.specs.Run.{run_of}
use Rattle.lab_caches.specs.declared.study.CacheRow.{CacheRow}
use Rattle.lab_caches.specs.declared.study.Study.{Study}
use Rattle.lab_caches.specs.Fetched.{fetches_of}

-- what a cache makes of these fetches: how many of them miss, and how many cycles they take, one a fetch and the penalty for each miss
abbrev pub row_over : List ℕ → Geometry → CacheRow
row_over past g = record { geometry = g; misses = misses_in g past; cycles = length past + misses_in g past * g.penalty }

-- the same, where a cache has counted its misses over so many fetches
abbrev pub row_for : ℕ → Counted → CacheRow
row_for fetches c = record { geometry = c.geometry; misses = c.misses; cycles = cycles_with c.geometry fetches c.misses }

-- the study of a program's run without requests within a budget, for caches of these geometries: the counts are the machine's, and each row is what
-- the cache makes of the addresses that the run fetches
pub record IsStudy (p : Program) (budget : ℕ) (gs : List Geometry) (study : Study) : Type 0 where
  pub counts : study.counts ≡ (run_of p [] budget).counts
  pub halted : study.halted ≡ (run_of p [] budget).halted
  pub rows : AreCaches gs → study.rows.items ≡ map (row_over (fetches_of p [] budget)) gs

-- the machine counts the addresses that its run fetches, and with its own cache as many misses as the definition has
pub record CountsFetches (p : Program) (requests : List ℕ) (budget : ℕ) : Type 0 where
  pub fetches : (run_of p requests budget).counts.fetches ≡ length (fetches_of p requests budget)
  pub misses : (run_of p requests budget).counts.misses ≡ misses_in SHIPPED_CACHE (fetches_of p requests budget)

abbrev pub EachRunCountsFetches : Type 0
EachRunCountsFetches = (p : Program) (requests : List ℕ) (budget : ℕ) → CountsFetches p requests budget
