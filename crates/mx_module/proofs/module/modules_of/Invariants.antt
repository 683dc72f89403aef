use Rattle.std.proofs.Common.{◌≡◌, ◌≤◌, ◌*◌, ◌++◌, map, drop}
use Rattle.mx_module.specs.Modules.{modules_from, modules_of}
use Rattle.mx_module.specs.ModuleView.{text_bytes}
use Rattle.mx_module.proofs.module.modules_of.Given as goal

abbrev pub invariant-loop-text : goal.invariant-loop-text
invariant-loop-text l = record {
  index : l.start.index ≤ 4194304 * l.text-index;
  near : l.start.address ≤ 65537;
  modules : l.modules.items ++ modules_from l.start (map text_bytes (drop l.text-index l.texts)) ≡ modules_of (map text_bytes l.texts);
}
