use Rattle.std.proofs.Common.{◌≡◌, [], map, take, IfOk, ap, ◌∙◌, subst, arith}
use Rattle.mx_lex.specs.Lines.{lines_of}
use Rattle.mx_asm.specs.Positions.{start, labels_from}
use Rattle.mx_lines.specs.Words.{texts}
use Rattle.mx_faults.specs.Found.{HasSpan, numbered}
use Rattle.mx_faults.proofs.Texts.{found_is}
use Rattle.mx_faults.proofs.Tokens.{spans_are}
use Rattle.mx_faults.specs.Walking.{IsShown}
use Rattle.std.specs.Prelude.{All}
use Rattle.std.proofs.lemmas.Result.{IfOk-weaker}
use Rattle.mx_faults.proofs.walk.found_in.Goals as goal

pub returns : goal.returns
returns c =
    let low = c.args.bounds.now.data_start in
    let end = c.args.bounds.now.end in
    let text = c.args.text.now in
    let first : texts c.deref.result.now ≡ lines_of text = ap texts c.deref.ensures.value ∙ c.in_ok-lines.ensures.lines in
    let second : texts c.deref-2.result.now ≡ lines_of text = ap texts c.deref-2.ensures.value ∙ c.in_ok-lines.ensures.lines in
    let labels = c.in_ok-definitions.definitions.labels in
    let defined : labels ≡ labels_from (start low) [] (lines_of text) =
    c.in_ok-definitions.ensures.labels ∙ ap (λ p. labels_from p [] (texts c.deref.result.now)) c.start.ensures ∙ ap (labels_from (start low) []) first in
    let lines = texts c.deref-2.result.now in
    let found = found_is low end text labels lines (omega arith) (omega arith) defined second in
    record {
      found = subst (λ fs. IfOk c.walk.result (λ v. map numbered v.items ≡ take c.args.at_most fs)) found c.walk.ensures.found;
      spans = IfOk-weaker c.walk.result (λ v. All (IsShown labels low lines) v.items) (λ v. All (HasSpan low end text) v.items)
          (λ v h. spans_are low end text labels lines v.items defined second h)
          c.walk.ensures.spans;
    }
