use Rattle.std.proofs.Common.{◌≡◌, map, drop}
use Rattle.mx_module.specs.Joined.{with_imports, seen_in}
use Rattle.mx_module.specs.ModuleView.{link_value}
use Rattle.mx_module.proofs.imports.seen_in.Given as goal

abbrev pub invariant-loop-link : goal.invariant-loop-link
invariant-loop-link l = with_imports l.modules l.place l.labels (map link_value (drop l.link-index l.links)) ≡ seen_in l.modules l.place l.own
