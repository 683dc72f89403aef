use Rattle.std.proofs.Common.{◌<◌}
use Rattle.mx_blocks.specs.declared.block.Plan.{Plan}
use Rattle.mx_validate.specs.Validity.{Valid}
use Rattle.mx_best.proofs.shortest.best.Given as goal

abbrev pub invariant-loop-place : goal.invariant-loop-place
invariant-loop-place l = (other : Plan) → other.place < l.place → ¬ Valid l.block other
