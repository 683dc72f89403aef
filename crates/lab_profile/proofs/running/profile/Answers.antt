use Rattle.std.proofs.Common.{refl, ap, ◌∙◌, arith}
use Rattle.mx_turn.specs.Cycle.{MachineState}
use Rattle.mx_turn.specs.Run.{bits}
use Rattle.lab_profile.proofs.Still.{no_tally, tally_end, waiting_end}
use Rattle.lab_profile.proofs.running.profile.Goals as goal

pub observe-requires-clause-fits : goal.observe-requires-clause-fits
observe-requires-clause-fits g c = (c.requires.words, c.in-Ok.ensures.sizes, c.in-Ok.ensures.none, omega arith, omega arith)

pub returns-clause-sizes : goal.returns-clause-sizes
returns-clause-sizes g c = c.in-Ok-observe.ensures.fits.1

pub returns-clause-profile : goal.returns-clause-profile
returns-clause-profile g c = λ p s.
    let reqs = c.args.requests.now in
    let words = c.args.words in
    let budget = c.args.budget in
    let r = c.in-Ok-observe.reached in
    let e = c.in-Ok-observe.ensures in
    let is = e.halted p s refl in
    let saw = e.saw p s refl (no_tally p reqs words c.in-Ok.tally c.in-Ok.ensures.none, refl, refl) in
    record {
      tally = tally_end p reqs words r.cycles budget r.halted is e.within (λ h. e.whole h refl) _ saw.0;
      waiting = saw.1 ∙ waiting_end p reqs words r.cycles budget r.halted is e.within (λ h. e.whole h refl);
      counts = c.counts.ensures.counts p (bits reqs r.cycles) (e.stands p s refl) ∙ ap (λ (m : MachineState). m.counts) (e.last refl p s refl);
      halted = is ∙ ap (λ (m : MachineState). m.halted) (e.last refl p s refl);
    }
