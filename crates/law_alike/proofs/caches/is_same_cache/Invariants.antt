use Rattle.std.proofs.Common.{◌≤◌, length}
use Rattle.law_alike.proofs.Ways.{SameSets}
use Rattle.law_alike.proofs.caches.is_same_cache.Given as goal

-- the sets so far are the same
abbrev pub invariant-loop-set : goal.invariant-loop-set
invariant-loop-set l = SameSets l.cache l.other l.set × (l.set ≤ length l.cache.sets) × (l.set ≤ length l.other.sets)
