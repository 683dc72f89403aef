use Rattle.std.proofs.Common.{◌≡◌, ◌≤◌, length, take}
use Rattle.lab_profile.specs.Calls.{open_in}
use Rattle.lab_profile.proofs.calling.Progress.end_from.Given as goal

-- those that are left are the first of them
abbrev pub invariant-loop-self : goal.invariant-loop-self
invariant-loop-self l = record {
  first : l.first ≤ length (open_in l.self);
  left : open_in l.self ≡ take (length (open_in l.self)) (open_in l.fn.self);
}

abbrev pub decreases-loop-self : goal.decreases-loop-self
decreases-loop-self l = length (open_in l.self)
