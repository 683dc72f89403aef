use Rattle.std.proofs.Common.{◌≡◌, ◌≤◌, ◌+◌, ◌++◌, map, length, vec_len}
use Rattle.mx_lex.specs.Lines.{pieces, without_return}
use Rattle.mx_lines.specs.Words.{texts}
use Rattle.mx_lines.proofs.lines.lines_of.Given as goal

-- the lines so far and those of the rest are those of the text
abbrev pub invariant-loop-rest : goal.invariant-loop-rest
invariant-loop-rest l = record {
  same : texts l.lines.items ++ map without_return (pieces l.rest) ≡ map without_return (pieces l.text);
  few : vec_len l.lines + length l.rest ≤ length l.text;
}

abbrev pub decreases-loop-rest : goal.decreases-loop-rest
decreases-loop-rest l = length l.rest
