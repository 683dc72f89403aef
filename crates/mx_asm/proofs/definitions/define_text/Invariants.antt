use Rattle.std.proofs.Common.{◌≤◌, ◌+◌, length}
use Rattle.mx_lex.specs.Lines.{lines_of}
use Rattle.mx_asm.proofs.Defining.{IsDefined}
use Rattle.mx_asm.proofs.definitions.define_text.Given as goal

abbrev pub invariant-loop-rest : goal.invariant-loop-rest
invariant-loop-rest l = record {
  number : l.number + length l.rest ≤ length l.text + 1;
  index : l.found.last.index + length l.rest ≤ l.fn.from.index + length l.text;
  defined : IsDefined l.fn.from (lines_of l.text) l.found l.number (lines_of l.rest);
}

abbrev pub decreases-loop-rest : goal.decreases-loop-rest
decreases-loop-rest l = length l.rest
