use Rattle.std.proofs.Common.{◌≡◌, ◌<◌, ◌≤◌, ℕ, Some, length, slice_get}
use Rattle.lab_cache.specs.declared.alike.Caches.{Caches}
use Rattle.lab_cache.specs.All.{Ends}
use Rattle.lab_cache.proofs.all.end_all.Given as goal

-- the groups that were passed took the step
abbrev pub invariant-loop-caches : goal.invariant-loop-caches
invariant-loop-caches l = (length l.groups ≡ length l.initial.groups)
    × ((k : ℕ) → l.caches-index ≤ k → slice_get l.groups k ≡ slice_get l.initial.groups k)
    × ((k : ℕ) (one other : Caches) → k < l.caches-index → slice_get l.initial.groups k ≡ Some one → slice_get l.groups k ≡ Some other
    → Ends one other)
