use Rattle.std.proofs.Common.{◌≡◌}
use Rattle.std.specs.Prelude.{slice_get}
use Rattle.lab_certify.specs.Verified.{Before}
use Rattle.lab_certify.proofs.comparing.first_difference.Given as goal

abbrev pub invariant-loop-i : goal.invariant-loop-i
invariant-loop-i l = Before (λ k. slice_get l.expected k ≡ slice_get l.found k) l.i
