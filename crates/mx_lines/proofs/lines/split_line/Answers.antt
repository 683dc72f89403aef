use Rattle.std.proofs.Common.{◌+◌, length, drop, take, ap, ◌∙◌, arith}
use Rattle.std.proofs.lemmas.List.{length-drop}
use Rattle.mx_lex.specs.Lines.{without_return}
use Rattle.mx_lines.proofs.Pieces.{first_line}
use Rattle.mx_lines.proofs.lines.split_line.Goals as goal

pub returns : goal.returns
returns c =
    let text = c.args.text.now in
    let end = c.line_end-end.ensures.end in
    let left = c.behind.ensures ∙ ap (λ e. drop (e + 1) text) end in
    record {
      lines = first_line text c.without_return.result.now c.behind.result.now c.requires
          (c.without_return.ensures ∙ ap (λ e. without_return (take e text)) end) left;
      shorter = omega (arith, c.requires, ap length c.behind.ensures, length-drop (c.line_end-end.result + 1) text);
    }
