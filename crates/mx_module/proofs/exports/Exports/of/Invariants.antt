use Rattle.std.proofs.Common.{◌≡◌, [], map, drop}
use Rattle.mx_module.specs.ExportTable.{exports_from}
use Rattle.mx_module.specs.ModuleView.{link_value}
use Rattle.mx_module.proofs.exports.Exports.of.Given as goal

abbrev pub invariant-loop-link : goal.invariant-loop-link
invariant-loop-link l = exports_from l.exports (map link_value (drop l.link-index l.links)) ≡ exports_from [] (map link_value l.links)
