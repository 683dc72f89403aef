use Rattle.std.proofs.Common.{◌≡◌, drop}
use Rattle.mx_module.specs.LinkFaults.{first_exporter}
use Rattle.mx_module.proofs.link_faults.first_exporter.Given as goal

abbrev pub invariant-loop-module : goal.invariant-loop-module
invariant-loop-module l = first_exporter (drop l.module-index l.modules) l.name ≡ first_exporter l.modules l.name
