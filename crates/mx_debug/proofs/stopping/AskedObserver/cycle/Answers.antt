use Rattle.std.proofs.Common.{◌≡◌, ◌<◌, length, ap, ◌∙◌, subst, arith, ⊎_elim}
use Rattle.std.proofs.lemmas.Bool.{cases_lt}
use Rattle.std.proofs.lemmas.Bool.Decides.{nat_tests}
use Rattle.std.proofs.lemmas.List.{length-map}
use Rattle.mx_debug.specs.Stops.{stop_cycles, stop_at}
use Rattle.mx_debug.proofs.stopping.AskedObserver.cycle.Goals as goal

pub find_stop-requires-clause-watch : goal.find_stop-requires-clause-watch
find_stop-requires-clause-watch g c = c.requires.fits.0

pub find_stop-requires-clause-short : goal.find_stop-requires-clause-short
find_stop-requires-clause-short g c = c.requires.fits.1

pub returns-clause-fits : goal.returns-clause-fits
returns-clause-fits g c = (
  c.requires.fits.0,
  c.in_ok-cycled.ensures.short,
  (let few = c.in_ok-cycled.ensures.few in
      let most = c.requires.fits.2 in
      let more = c.requires.more in
      let less : length c.args.notes.now.stops.items < c.args.self.now.limit = grind (arith, nat_tests) in
      omega (arith, few, less)),
)

pub returns-clause-saw : goal.returns-clause-saw
returns-clause-saw g c = λ p reqs comes s going saw.
    let i = c.args.cycle in
    let asked = c.args.self.now in
    let most = c.requires.fits.2 in
    let more = c.requires.more in
    let less : length c.args.notes.now.stops.items < asked.limit = grind (arith, nat_tests) in
    let told : length c.args.notes.now.stops.items ≡ length (stop_cycles p reqs asked.address i) =
    ap length saw.1 ∙ length-map (stop_cycles p reqs asked.address i) (stop_at p reqs asked.watch) in (
      c.in_ok-cycled.ensures.console p reqs comes s saw.0,
      c.in_ok-cycled.ensures.stops p reqs comes s saw.0 saw.1,
      λ k before. ⊎_elim
          (λ earlier. saw.2 k earlier)
          (λ later. let same : i ≡ k = omega (arith, before, later) in
          subst (λ n. length (stop_cycles p reqs asked.address n) < asked.limit) same (omega (arith, less, told)))
          (cases_lt k i),
    )
