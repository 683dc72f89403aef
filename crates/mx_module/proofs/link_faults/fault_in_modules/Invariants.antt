use Rattle.std.proofs.Common.{◌≡◌, drop}
use Rattle.mx_module.specs.LinkFaults.{fault_in_modules}
use Rattle.mx_module.proofs.link_faults.fault_in_modules.Given as goal

abbrev pub invariant-loop-module : goal.invariant-loop-module
invariant-loop-module l = record {
  place : l.place ≡ l.module-index;
  fault : fault_in_modules l.modules l.place (drop l.module-index l.modules) ≡ fault_in_modules l.modules 0 l.modules;
}
