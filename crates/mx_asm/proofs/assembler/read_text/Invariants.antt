use Rattle.std.proofs.Common.{◌≤◌, ◌+◌, length}
use Rattle.mx_lex.specs.Lines.{lines_of}
use Rattle.mx_asm.proofs.Listed.{IsRead}
use Rattle.mx_asm.proofs.assembler.read_text.Given as goal

abbrev pub invariant-loop-rest : goal.invariant-loop-rest
invariant-loop-rest l = record {
  number : l.reading.number + length l.rest ≤ length l.text + 1;
  read : IsRead l.labels l.end l.fn.from (lines_of l.text) l.repeated l.reading (lines_of l.rest);
}

abbrev pub decreases-loop-rest : goal.decreases-loop-rest
decreases-loop-rest l = length l.rest
