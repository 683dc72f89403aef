use Rattle.std.proofs.Common.{◌≡◌, ◌+◌, ◌<◌, length, drop, take, ap, ◌∙◌, arith}
use Rattle.std.proofs.lemmas.Bool.Decides.{nat_tests}
use Rattle.std.proofs.lemmas.List.{length-drop}
use Rattle.mx_lex.specs.Lines.{without_return}
use Rattle.mx_lines.proofs.Pieces.{lines_step, lines_end}
use Rattle.mx_lines.proofs.lines.lines_of.Goals as goal

pub loop-rest-preserved : goal.loop-rest-preserved
loop-rest-preserved c =
    let some : 0 < length c.loop-rest.rest.now = grind (arith, nat_tests) in
    let end = c.line_end-end.ensures.end in
    let left = c.behind-rest.ensures ∙ ap (λ e. drop (e + 1) c.loop-rest.rest.now) end in
    record {
      same = lines_step c.loop-rest.lines.items c.push.new.self.items c.without_return.result c.loop-rest.rest.now c.behind-rest.result.now _ some
          c.loop-rest.invariant.same
          c.in_ok-push.ensures.items (c.without_return.ensures ∙ ap (λ e. without_return (take e c.loop-rest.rest.now)) end) left;
      few = omega (
        arith,
        c.in_ok-push.ensures.len,
        c.loop-rest.invariant.few,
        ap length c.behind-rest.ensures,
        length-drop
            (c.line_end-end.result + 1) c.loop-rest.rest.now,
      );
    }

pub returns-clause-lines : goal.returns-clause-lines
returns-clause-lines c =
    let none : length c.loop-rest.rest.now ≡ 0 = grind (arith, nat_tests) in
    lines_end c.loop-rest.lines.items c.loop-rest.rest.now c.args.text.now none c.loop-rest.invariant.same
