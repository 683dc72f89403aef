use Rattle.lab_certify.specs.Verified.{Before, AtBoth}
use Rattle.lab_certify.specs.Checks.{Begins}
use Rattle.lab_certify.proofs.checking.check_addresses.Given as goal

abbrev pub invariant-loop-k : goal.invariant-loop-k
invariant-loop-k l = Before (AtBoth Begins l.starts l.heads) l.k
