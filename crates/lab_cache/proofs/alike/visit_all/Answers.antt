use Rattle.std.proofs.Common.{◌≡◌, ◌<◌, ◌++◌, length, take, drop, subst, sym, ◌∙◌, ap, arith}
use Rattle.std.proofs.lemmas.List.{length-set}
use Rattle.std.proofs.lemmas.Option.{slice_get_within}
use Rattle.lab_cache.specs.Quick.{Visits}
use Rattle.lab_cache.specs.Alike.{AllVisits}
use Rattle.lab_cache.proofs.SetSteps.{at_set_other}
use Rattle.lab_cache.proofs.Going.{one_more, take_front}
use Rattle.lab_cache.proofs.alike.visit_all.Goals as goal

pub loop-cache-preserved : goal.loop-cache-preserved
loop-cache-preserved c =
    let inside : c.loop-cache.cache-index < length c.loop-cache.cache-items =
    let test = c.loop-cache-test.true in let size = c.loop-cache.invariant.0 in omega (arith, test, size) in (
      length-set c.loop-cache.cache-items c.loop-cache.cache-index c.visit.new.self ∙ c.loop-cache.invariant.0,
      λ k le. at_set_other c.loop-cache.cache-items c.loop-cache.cache-index k c.visit.new.self (omega (arith, le))
          ∙ c.loop-cache.invariant.1 k (omega (arith, le)),
      one_more (λ one other. Visits one other c.args.line c.args.groups) c.deref_mut-cache-items.result.now c.loop-cache.cache-items c.loop-cache.cache-index
          c.visit.new.self c.cache-item.result c.loop-cache.invariant.1 c.loop-cache.invariant.2 inside c.visit.ensures,
    )

pub returns : goal.returns
returns c =
    let size = c.loop-cache.invariant.0 in
    let end = c.loop-cache-test.false in
    let value = c.deref_mut-cache-items.ensures.value in
    let all : c.args.caches.now.len ≡ length c.loop-cache.cache-items = let len = c.deref_mut-cache-items.ensures.len in omega (arith, size, len) in
    subst (λ ys. AllVisits c.args.caches.now.items ys c.args.line c.args.groups)
    (sym (ap (λ n. take n (c.loop-cache.cache-items ++ drop (length c.loop-cache.cache-items) c.args.caches.now.items)) all
    ∙ take_front c.loop-cache.cache-items (drop (length c.loop-cache.cache-items) c.args.caches.now.items)))
    (subst (λ xs. AllVisits xs c.loop-cache.cache-items c.args.line c.args.groups) value (record {
      number = size;
      each = λ k one other at at'. let below = slice_get_within c.loop-cache.cache-items k other at' in
          c.loop-cache.invariant.2 k one other (omega (arith, below, size, end)) at at';
    }))
