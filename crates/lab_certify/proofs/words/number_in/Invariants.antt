use Rattle.std.proofs.Common.{◌≡◌, ◌≤◌, drop}
use Rattle.lab_certify.specs.Texts.{number_after}
use Rattle.lab_certify.proofs.words.number_in.Given as goal

abbrev pub invariant-loop-i : goal.invariant-loop-i
invariant-loop-i l = (number_after l.number (drop l.i l.digits) ≡ number_after 0 l.digits) × (l.number ≤ 65539)
