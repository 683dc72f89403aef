use Rattle.std.proofs.Common.{◌≡◌, ◌<◌, ◌^◌, [], map, length, sym, ap, ◌∙◌, arith}
use Rattle.mx_turn.specs.Counted.{Counted}
use Rattle.mx_turn.specs.Cycle.{MachineState}
use Rattle.mx_turn.specs.Run.{run_of}
use Rattle.lab_caches.specs.Fetched.{fetches_of}
use Rattle.lab_caches.specs.Rows.{row_over}
use Rattle.lab_caches.proofs.Counts.{runs_count_fetches, fetches_few}
use Rattle.lab_caches.proofs.study.study_with.Goals as goal

pub returns-in-Ok : goal.returns-in-Ok
returns-in-Ok g c = λ p gs s begun.
    let reqs = c.none.result in
    let budget = c.args.budget in
    let past = fetches_of p reqs budget in
    let after = c.run-halted.ensures.stands p s in
    let counts = c.counts-counts.ensures.counts p after.0 after.1 ∙ ap (λ (m : MachineState). m.counts) after.2 in
    let many = sym (ap (λ (n : Counted). n.fetches) (c.counts.view_is ∙ counts) ∙ (runs_count_fetches p reqs budget).fetches) in
    let least = fetches_few p reqs budget in
    let size = c.ranges.budget.fits in
    let few : c.counts.inside.fetches < 2 ^ 32 = omega (arith, many, least, size) in
    record {
      counts = counts ∙ ap (λ rs. (run_of p rs budget).counts) c.none.ensures;
      halted = c.run-halted.ensures.halted p s ∙ ap (λ rs. (run_of p rs budget).halted) c.none.ensures;
      rows = λ are. c.in-Ok.ensures gs past many few (c.run-halted.ensures.fetched p gs s (begun are))
          ∙ ap (λ rs. map (row_over (fetches_of p rs budget)) gs) c.none.ensures;
    }
