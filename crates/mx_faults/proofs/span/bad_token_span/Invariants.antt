use Rattle.std.proofs.Common.{◌≡◌}
use Rattle.mx_lex.specs.Tokens.{tokens_within, tokens_of}
use Rattle.mx_faults.specs.Showing.{no_token}
use Rattle.mx_faults.proofs.span.bad_token_span.Given as goal

-- so many tokens may still come
abbrev pub invariant-loop-left : goal.invariant-loop-left
invariant-loop-left l = record {
  line : l.lexer.line ≡ l.line;
  same : no_token l.line (tokens_within l.left l.line l.lexer.at) ≡ no_token l.line (tokens_of l.line);
}

abbrev pub decreases-loop-left : goal.decreases-loop-left
decreases-loop-left l = l.left
