use Rattle.std.proofs.Common.{◌≡◌, ◌<◌, ◌≤◌, ℕ, Some, length, slice_get}
use Rattle.lab_cache.specs.declared.quick.QuickCache.{QuickCache}
use Rattle.lab_cache.specs.Quick.{Visits}
use Rattle.lab_cache.proofs.alike.visit_all.Given as goal

-- the caches that were passed took the visit
abbrev pub invariant-loop-cache : goal.invariant-loop-cache
invariant-loop-cache l = (length l.cache-items ≡ length l.initial.cache-items)
    × ((k : ℕ) → l.cache-index ≤ k → slice_get l.cache-items k ≡ slice_get l.initial.cache-items k)
    × ((k : ℕ) (one other : QuickCache) → k < l.cache-index → slice_get l.initial.cache-items k ≡ Some one → slice_get l.cache-items k ≡ Some other
    → Visits one other l.line l.groups)
