use Rattle.std.proofs.Common.{◌≡◌, take, false}
use Rattle.cc_plan.specs.Knowing.{is_by_one}
use Rattle.cc_plan.proofs.knowledge.Known.is_by_one.Given as goal

-- it is known by way of none that was passed
abbrev pub invariant-loop-register : goal.invariant-loop-register
invariant-loop-register l = is_by_one l.points (take l.register-index l.registers) l.self ≡ false
