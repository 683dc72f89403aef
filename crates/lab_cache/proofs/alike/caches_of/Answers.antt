use Rattle.std.proofs.Common.{◌≡◌, ◌+◌, ◌++◌, ◌∷◌, [], length, get_or, slice_get, subst, sym, ◌∙◌, ap, arith, length-append}
use Rattle.std.proofs.lemmas.Option.{slice_get-get_or}
use Rattle.lab_cache.specs.Misses.{IsCache}
use Rattle.lab_cache.specs.Quick.{QuickHolds}
use Rattle.lab_cache.proofs.Going.{one_more_cache}
use Rattle.lab_cache.proofs.alike.caches_of.Goals as goal

pub loop-geometry-preserved : goal.loop-geometry-preserved
loop-geometry-preserved c =
    let size = c.loop-geometry.invariant.0 in
    let pushed : c.push.new.self.items ≡ c.loop-geometry.caches.items ++ c.in_ok-new.field-0 ∷ [] = c.in_ok-push.ensures.items in (
      ap (λ xs. length xs) pushed ∙ length-append c.loop-geometry.caches.items (c.in_ok-new.field-0 ∷ []) ∙ ap (λ n. n + 1) size,
      λ k quick at. one_more_cache c.args.geometries.now c.loop-geometry.caches.items c.in_ok-new.field-0
          (get_or c.args.geometries.now c.loop-geometry.geometry-index (record { sets = 0; ways = 0; line = 0; brings = 0; penalty = 0 }))
          (λ one. IsCache one.cache.geometry → QuickHolds one []) c.loop-geometry.invariant.1
          (ap (λ n. slice_get c.args.geometries.now n) size ∙ slice_get-get_or c.args.geometries.now c.loop-geometry.geometry-index
          (record { sets = 0; ways = 0; line = 0; brings = 0; penalty = 0 }) c.loop-geometry-test.true) c.in_ok-new.ensures.geometry
          (λ is. c.in_ok-new.ensures.begins (subst IsCache c.in_ok-new.ensures.geometry is)) k quick
          (ap (λ xs. slice_get xs k) (sym pushed) ∙ at),
    )

pub returns : goal.returns
returns c = λ line brings alike. record {
  number = let size = c.loop-geometry.invariant.0 in let end = c.loop-geometry-test.false in let most = c.loop-geometry.auto.geometry-index-end in
      omega (arith, size, end, most);
  geometry = λ k quick at. (c.loop-geometry.invariant.1 k quick at).0;
  each = λ k quick at. (c.loop-geometry.invariant.1 k quick at).1 (alike.caches k quick.cache.geometry (c.loop-geometry.invariant.1 k quick at).0);
}
