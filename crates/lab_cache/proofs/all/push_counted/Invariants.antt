use Rattle.std.proofs.Common.{◌≡◌, ◌++◌, take, map}
use Rattle.lab_cache.specs.All.{noted}
use Rattle.lab_cache.proofs.all.push_counted.Given as goal

abbrev pub invariant-loop-quick : goal.invariant-loop-quick
invariant-loop-quick l = l.rows.items ≡ l.fn.rows.items ++ map noted (take l.quick-index l.caches)
