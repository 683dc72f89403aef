use Rattle.std.proofs.Common.{◌≡◌}
use Rattle.mx_faults.specs.Showing.{token_behind}
use Rattle.mx_faults.proofs.span.token_span.Given as goal

-- so many tokens are still to be passed over
abbrev pub invariant-loop-left : goal.invariant-loop-left
invariant-loop-left l = record {
  line : l.lexer.line ≡ l.line;
  same : token_behind l.left l.line l.lexer.at ≡ token_behind l.place l.line 0;
}

abbrev pub decreases-loop-left : goal.decreases-loop-left
decreases-loop-left l = l.left
