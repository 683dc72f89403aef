use Rattle.std.proofs.Common.{take}
use Rattle.lab_plans.specs.Verdicts.{AreVerdicts}
use Rattle.lab_plans.proofs.verdicts.verdicts_of.Given as goal

abbrev pub invariant-loop-i : goal.invariant-loop-i
invariant-loop-i l = AreVerdicts (take l.i l.blocks) (take l.i l.plans) l.verdicts.items
