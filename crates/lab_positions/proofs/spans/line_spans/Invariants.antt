use Rattle.std.proofs.Common.{◌≡◌, length}
use Rattle.lab_positions.proofs.spans.line_spans.Given as goal

-- a span for each line that has come
abbrev pub invariant-loop-line : goal.invariant-loop-line
invariant-loop-line l = length l.spans.items ≡ length l.yielded
