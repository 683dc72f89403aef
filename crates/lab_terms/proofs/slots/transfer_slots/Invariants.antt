use Rattle.std.proofs.Common.{◌≡◌}
use Rattle.lab_terms.specs.Slots.{counted, fillings_to}
use Rattle.lab_terms.proofs.slots.transfer_slots.Given as goal

-- the slots of the words so far are counted
abbrev pub invariant-loop-at : goal.invariant-loop-at
invariant-loop-at l = l.slots ≡ counted (fillings_to l.statements l.code l.origin l.at)
