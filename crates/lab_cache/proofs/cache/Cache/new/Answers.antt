use Rattle.std.proofs.Common.{◌≡◌, length, refl, arith}
use Rattle.lab_cache.proofs.CacheSteps.{cache_begins}
use Rattle.lab_cache.proofs.cache.Cache.new.Goals as goal

pub returns-clause-begins : goal.returns-clause-begins
returns-clause-begins c =
    cache_begins (record { geometry = c.args.geometry; sets = c.loop.sets; misses = 0 })
    (let counted : length c.loop.sets.items ≡ c.loop.counter = c.loop.invariant.0 in omega arith) c.loop.invariant.1 refl
