use Rattle.std.proofs.Common.{◌≡◌, ◌+◌, ◌++◌, map, drop}
use Rattle.mx_lines.specs.Words.{texts}
use Rattle.mx_module.specs.Links.{link_lines_from, plain_line}
use Rattle.mx_module.specs.ModuleView.{link_value}
use Rattle.mx_module.proofs.plain.parts_of.Given as goal

abbrev pub invariant-loop-line : goal.invariant-loop-line
invariant-loop-line l = record {
  number : l.number ≡ l.line-index + 1;
  lines : texts l.parts.lines.items ++ map plain_line (texts (drop l.line-index l.lines)) ≡ map plain_line (texts l.lines);
  links : map link_value l.parts.links.items ++ link_lines_from l.number (texts (drop l.line-index l.lines)) ≡ link_lines_from 1 (texts l.lines);
}
