use Rattle.std.proofs.Common.{◌<◌, length, ◌∙◌, arith}
use Rattle.std.proofs.lemmas.List.{length-set}
use Rattle.std.proofs.lemmas.Option.{slice_get_within}
use Rattle.lab_cache.specs.All.{Ends}
use Rattle.lab_cache.proofs.SetSteps.{at_set_other}
use Rattle.lab_cache.proofs.Going.{one_more}
use Rattle.lab_cache.proofs.all.end_all.Goals as goal

pub loop-caches-preserved : goal.loop-caches-preserved
loop-caches-preserved c =
    let inside : c.loop-caches.caches-index < length c.loop-caches.groups =
    let test = c.loop-caches-test.true in let size = c.loop-caches.invariant.0 in omega (arith, test, size) in (
      length-set c.loop-caches.groups c.loop-caches.caches-index c.end.new.self ∙ c.loop-caches.invariant.0,
      λ k le. at_set_other c.loop-caches.groups c.loop-caches.caches-index k c.end.new.self (omega (arith, le))
          ∙ c.loop-caches.invariant.1 k (omega (arith, le)),
      one_more (Ends) c.args.groups.now c.loop-caches.groups c.loop-caches.caches-index c.end.new.self
          c.caches-item.result c.loop-caches.invariant.1 c.loop-caches.invariant.2 inside c.end.ensures,
    )

pub returns : goal.returns
returns c = record {
  number = c.loop-caches.invariant.0;
  each = λ k one other at at'. let below = slice_get_within c.loop-caches.groups k other at' in let size = c.loop-caches.invariant.0 in
      let end = c.loop-caches-test.false in c.loop-caches.invariant.2 k one other (omega (arith, below, size, end)) at at';
}
