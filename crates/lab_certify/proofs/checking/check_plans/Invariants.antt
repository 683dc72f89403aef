use Rattle.mx_validate.specs.Validity.{Valid}
use Rattle.lab_certify.specs.Verified.{Before, AtBoth}
use Rattle.lab_certify.proofs.checking.check_plans.Given as goal

abbrev pub invariant-loop-k : goal.invariant-loop-k
invariant-loop-k l = Before (AtBoth Valid l.blocks l.plans) l.k
