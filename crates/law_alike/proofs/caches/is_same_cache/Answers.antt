use Rattle.std.proofs.Common.{arith}
use Rattle.law_alike.proofs.Ways.{SameSets, caches_alike}
use Rattle.law_alike.proofs.caches.is_same_cache.Goals as goal

pub returns : goal.returns
returns c = λ t past past' h h'.
    let end = c.loop-set-test.false in
    let long = c.loop-set.invariant.1 in
    let long' = c.loop-set.invariant.2 in
    let same : SameSets c.args.cache.now c.args.other.now 4 = λ s one two p at at'. c.loop-set.invariant.0 s one two (omega (arith, p, end)) at at' in
    caches_alike c.args.cache.now c.args.other.now (omega (arith, end, long)) (omega (arith, end, long')) same past past' h h'
