use Rattle.std.proofs.Common.{◌<◌, ◌-◌, ap, sym, ◌∙◌, arith}
use Rattle.std.proofs.lemmas.Bool.Decides.{nat_tests}
use Rattle.mx_lex.specs.Tokens.{next_token, tokens_within}
use Rattle.mx_faults.specs.Showing.{no_token}
use Rattle.mx_faults.proofs.Tokens.{fault_step}
use Rattle.mx_faults.proofs.span.bad_token_span.Goals as goal

pub loop-left-preserved : goal.loop-left-preserved
loop-left-preserved c =
    let line = c.args.line.now in
    let at = c.loop-left.lexer.at in
    let left = c.loop-left.left in
    let more : 0 < left = grind (arith, nat_tests) in
    let is = ap (λ l. next_token l at) (sym c.loop-left.invariant.line) ∙ sym c.next.ensures.token ∙ c.in-Ok.is in
    record {
      line = c.next.ensures.line ∙ c.loop-left.invariant.line;
      same =
          ap (λ k. no_token line (tokens_within (left - 1) line k)) c.in-Ok.ensures.place
          ∙ fault_step left line at c.in-Ok.token more is (sym c.is_end.ensures ∙ c.if-is_end.false)
          ∙ c.loop-left.invariant.same;
    }
