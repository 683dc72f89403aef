use Rattle.std.proofs.Common.{◌≡◌, ℕ, Some, length, slice_get}
use Rattle.lab_cache.specs.declared.set.Set.{Set}
use Rattle.lab_cache.proofs.SetSteps.{IsEmpty}
use Rattle.lab_cache.proofs.cache.Cache.new.Given as goal

abbrev pub invariant-loop : goal.invariant-loop
invariant-loop l = (length l.sets.items ≡ l.counter) × ((s : ℕ) (set : Set) → slice_get l.sets.items s ≡ Some set → IsEmpty l.geometry.ways set)
