use Rattle.std.proofs.Common.{◌≡◌}
use Rattle.lab_terms.specs.Slots.{counted_places, after_loads}
use Rattle.lab_terms.proofs.slots.load_slots.Given as goal

-- the places after the loads so far are counted
abbrev pub invariant-loop-at : goal.invariant-loop-at
invariant-loop-at l = l.slots ≡ counted_places (after_loads l.statements l.origin l.at)
