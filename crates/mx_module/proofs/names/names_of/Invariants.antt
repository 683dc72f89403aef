use Rattle.std.proofs.Common.{◌≡◌, ◌++◌, drop}
use Rattle.mx_source.specs.Names.{named_labels}
use Rattle.mx_module.specs.Joined.{labels_in}
use Rattle.mx_module.proofs.names.names_of.Given as goal

abbrev pub invariant-loop-module : goal.invariant-loop-module
invariant-loop-module l = record {
  place : l.place ≡ l.module-index;
  named : named_labels l.named.entries ++ labels_in l.place (drop l.module-index l.modules) ≡ labels_in 0 l.modules;
}
