use Rattle.lab_profile.proofs.running.ChargerObserver.cycle.Goals as goal

pub charge_cycle-cycled-requires-clause-words : goal.charge_cycle-cycled-requires-clause-words
charge_cycle-cycled-requires-clause-words g c = c.requires.fits.0

pub charge_cycle-cycled-requires-clause-sizes : goal.charge_cycle-cycled-requires-clause-sizes
charge_cycle-cycled-requires-clause-sizes g c = c.requires.fits.1

pub charge_cycle-cycled-requires-clause-small : goal.charge_cycle-cycled-requires-clause-small
charge_cycle-cycled-requires-clause-small g c = c.requires.fits.2

pub charge_cycle-cycled-requires-clause-waiting : goal.charge_cycle-cycled-requires-clause-waiting
charge_cycle-cycled-requires-clause-waiting g c = c.requires.fits.3

pub charge_cycle-cycled-requires-clause-squasher : goal.charge_cycle-cycled-requires-clause-squasher
charge_cycle-cycled-requires-clause-squasher g c = c.requires.fits.4

pub returns-clause-fits : goal.returns-clause-fits
returns-clause-fits g c = (
  c.requires.fits.0,
  c.charge_cycle-cycled.ensures.sizes,
  c.charge_cycle-cycled.ensures.small,
  c.charge_cycle-cycled.ensures.waiting,
  c.charge_cycle-cycled.ensures.squasher,
)

pub returns-clause-saw : goal.returns-clause-saw
returns-clause-saw g c = λ p reqs comes s going saw. (
  c.charge_cycle-cycled.ensures.tally p reqs comes s going saw.0 saw.1 saw.2,
  c.charge_cycle-cycled.ensures.still_waiting p reqs comes s going saw.1,
  c.charge_cycle-cycled.ensures.last_squasher p reqs comes s going saw.2,
)
