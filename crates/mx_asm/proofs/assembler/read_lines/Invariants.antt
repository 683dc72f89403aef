use Rattle.std.proofs.Common.{◌≡◌, ◌+◌, drop}
use Rattle.mx_lines.specs.Words.{texts}
use Rattle.mx_asm.proofs.Listed.{IsRead}
use Rattle.mx_asm.proofs.assembler.read_lines.Given as goal

abbrev pub invariant-loop-line : goal.invariant-loop-line
invariant-loop-line l = record {
  number : l.reading.number ≡ l.line-index + 1;
  read : IsRead l.labels l.end l.fn.from (texts l.lines) l.repeated l.reading (texts (drop l.line-index l.lines));
}
