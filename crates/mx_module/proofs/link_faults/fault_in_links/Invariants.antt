use Rattle.std.proofs.Common.{◌≡◌, map, drop}
use Rattle.mx_module.specs.LinkFaults.{fault_in_links}
use Rattle.mx_module.specs.ModuleView.{link_value}
use Rattle.mx_module.proofs.link_faults.fault_in_links.Given as goal

abbrev pub invariant-loop-link : goal.invariant-loop-link
invariant-loop-link l = fault_in_links l.modules l.place l.own (map link_value (drop l.link-index l.links)) ≡ fault_in_links l.modules l.place l.own l.own.links
