use Rattle.std.proofs.Common.{◌≡◌, ◌+◌, set, length, Some, slice_get, subst, refl, ◌∙◌, ap}
use Rattle.std.proofs.lemmas.Option.{slice_get_read}
use Rattle.lab_terms.specs.Geometries.{saturated}
use Rattle.lab_cache.specs.Misses.{set_of}
use Rattle.lab_cache.proofs.CacheSteps.{cache_visited}
use Rattle.lab_cache.proofs.cache.Cache.fetch.Goals as goal

pub returns-clause-next : goal.returns-clause-next
returns-clause-next c = λ past visit is v h.
    let g = c.args.self.now.geometry in
    let sets = c.args.self.now.sets.items in
    let number : c.set_of-index.result ≡ set_of g c.args.line = c.set_of-index.ensures is.sets in
    let at : slice_get sets c.set_of-index.result ≡ Some c.in-Some.set.now =
    slice_get_read sets (length sets) c.set_of-index.result c.in-Some.set.now refl c.in-Some.ensures.item.3.0 c.in-Some.ensures.value in
    let holds = h.each (set_of g c.args.line) c.in-Some.set.now (subst (λ i. slice_get sets i ≡ Some c.in-Some.set.now) number at) in
    cache_visited c.args.self.now (record { geometry = g; sets = _; misses = c.saturating_add-self.result }) past visit c.args.line c.args.groups
    c.fetch-fetched.result.missed c.fetch-fetched.new.self is v h refl (ap (λ i. set sets i c.fetch-fetched.new.self) number)
    (c.fetch-fetched.ensures.next g past visit is v holds) (c.fetch-fetched.ensures.missed g past visit is v holds)
    (c.saturating_add-self.ensures ∙ ap (λ n. saturated (c.args.self.now.misses + n)) c.from.ensures)
