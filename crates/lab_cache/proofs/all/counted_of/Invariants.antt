use Rattle.std.proofs.Common.{◌≡◌, take}
use Rattle.std.specs.List.{flat_map}
use Rattle.lab_cache.specs.All.{noted_in}
use Rattle.lab_cache.proofs.all.counted_of.Given as goal

abbrev pub invariant-loop-caches : goal.invariant-loop-caches
invariant-loop-caches l = l.rows.items ≡ flat_map noted_in (take l.caches-index l.groups)
