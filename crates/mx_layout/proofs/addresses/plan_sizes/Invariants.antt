use Rattle.std.proofs.Common.{◌≡◌, map, take}
use Rattle.mx_layout.specs.Layout.{plan_size}
use Rattle.mx_layout.proofs.addresses.plan_sizes.Given as goal

abbrev pub invariant-loop-plan : goal.invariant-loop-plan
invariant-loop-plan l = l.sizes.items ≡ map plan_size (take l.plan-index l.plans)
