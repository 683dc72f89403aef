use Rattle.std.proofs.Common.{Err, [], ◌∷◌, length, drop, map, ap, sym, ◌∙◌, subst, arith}
use Rattle.std.proofs.lemmas.List.{map-append}
use Rattle.mx_lex.specs.Tokens.{next_token}
use Rattle.mx_lex.specs.Reading.{IsSpan}
use Rattle.mx_lines.specs.Shapes.{word}
use Rattle.mx_lines.specs.Words.{has_bad_byte}
use Rattle.mx_lines.proofs.LineWords.{Reads, reads_none, reads_push, reads_end, reads_fault, no_bad_byte, splits_not, not_end}
use Rattle.mx_lines.proofs.Clean.{clean_token}
use Rattle.mx_lines.proofs.word.split_words.Goals as goal

pub tokens-init : goal.tokens-init
tokens-init c = record {
  line = ap (λ r. r.line) c.new-lexer.ensures;
  reads =
      subst (λ ws. Reads c.args.line.now ws c.new-lexer.result.at) (ap (map word) (sym c.clear.ensures.items))
      (subst (Reads c.args.line.now []) (ap (λ r. r.at) (sym c.new-lexer.ensures)) (reads_none c.args.line.now));
  clean = ap (λ r. has_bad_byte (drop r.at c.args.line.now)) c.new-lexer.ensures;
}

pub returns-in_default : goal.returns-in_default
returns-in_default c =
    let e = ap (λ l. next_token l c.tokens.lexer.at) (sym c.tokens.invariant.line) ∙ sym c.next.ensures.token ∙ c.in_default.is in
    splits_not c.args.line.now (reads_fault c.args.line.now _ c.tokens.lexer.at c.in_default.field-0 c.tokens.invariant.reads e)
    ∙ ap Err (sym c.token_fault.ensures)

pub returns-then-is_end : goal.returns-then-is_end
returns-then-is_end c =
    let e = ap (λ l. next_token l c.tokens.lexer.at) (sym c.tokens.invariant.line) ∙ sym c.next.ensures.token ∙ c.in-Ok.is in
    let ends = sym c.is_end.ensures ∙ c.if-is_end.true in
    no_bad_byte c.args.line.now (sym c.tokens.invariant.clean ∙ (clean_token c.args.line.now c.tokens.lexer.at c.in-Ok.token e).last ends)
    ∙ reads_end c.args.line.now _ c.tokens.lexer.at c.in-Ok.token c.tokens.invariant.reads e ends

pub word_at-requires-clause-within : goal.word_at-requires-clause-within
word_at-requires-clause-within c =
    let long = ap length c.tokens.invariant.line in
    let span = c.in-Ok.ensures.span in
    omega (arith, long, span.within)

pub tokens-smaller : goal.tokens-smaller
tokens-smaller c =
    let long = ap length c.tokens.invariant.line in
    let span = c.in-Ok.ensures.span in
    let taken = span.taken (not_end c.in-Ok.token.kind (sym c.is_end.ensures ∙ c.if-is_end.false)) in
    omega (arith, long, span.within, span.after, taken, c.in-Ok.ensures.place)

pub tokens-preserved : goal.tokens-preserved
tokens-preserved c =
    let e = ap (λ l. next_token l c.tokens.lexer.at) (sym c.tokens.invariant.line) ∙ sym c.next.ensures.token ∙ c.in-Ok.is in
    record {
      line = c.next.ensures.line ∙ c.tokens.invariant.line;
      reads = reads_push c.args.line.now (map word c.tokens.words.items) _ c.tokens.lexer.at _ c.in-Ok.token
          (word c.word_at.result) c.tokens.invariant.reads e (sym c.is_end.ensures ∙ c.if-is_end.false)
          (subst (λ l. IsSpan l c.tokens.lexer.at c.in-Ok.token) c.tokens.invariant.line c.in-Ok.ensures.span)
          (ap (map word) c.in_ok-push.ensures.items ∙ map-append word c.tokens.words.items (c.word_at.result ∷ []))
          c.word_at.ensures
          c.in-Ok.ensures.place;
      clean = ap (λ k. has_bad_byte (drop k c.args.line.now)) c.in-Ok.ensures.place ∙ (clean_token c.args.line.now c.tokens.lexer.at c.in-Ok.token e).plain
          ∙ c.tokens.invariant.clean;
    }
