use Rattle.std.proofs.Common.{◌≡◌, ◌≤◌, ◌+◌, drop}
use Rattle.mx_lines.specs.Words.{texts}
use Rattle.mx_asm.proofs.Defining.{IsDefined}
use Rattle.mx_asm.proofs.definitions.define_all.Given as goal

abbrev pub invariant-loop-line : goal.invariant-loop-line
invariant-loop-line l = record {
  number : l.number ≡ l.line-index + 1;
  index : l.found.last.index ≤ l.fn.from.index + l.line-index;
  defined : IsDefined l.fn.from (texts l.lines) l.found l.number (texts (drop l.line-index l.lines));
}
