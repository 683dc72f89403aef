use Rattle.std.proofs.Common.{◌≡◌, ◌+◌, ◌++◌, ◌∷◌, [], map, drop, get_or, ap, ◌∙◌, append_assoc, arith}
use Rattle.mx_lines.specs.Words.{texts}
use Rattle.mx_lines.proofs.NextLine.{past, at_line}
use Rattle.mx_module.specs.Links.{link_lines_from, plain_line}
use Rattle.mx_module.specs.ModuleView.{link_value}
use Rattle.mx_module.proofs.Parted.{link_before}
use Rattle.mx_module.proofs.plain.parts_of.Goals as goal

pub loop-line-preserved : goal.loop-line-preserved
loop-line-preserved c =
    let lines = c.args.lines.now in
    let i = c.loop-line.line-index in
    let line = (get_or lines i past).now in
    let later = texts (drop (i + 1) lines) in
    let number = c.loop-line.number in
    let plain = texts c.loop-line.parts.lines.items in
    let links = map link_value c.loop-line.parts.links.items in
    record {
      number = omega arith;
      lines =
          ap (λ ls. ls ++ map plain_line later) c.in_ok-add.ensures.lines
          ∙ append_assoc plain (plain_line line ∷ []) (map plain_line later)
          ∙ at_line (λ ls. plain ++ map plain_line ls ≡ map plain_line (texts lines)) lines i (omega arith) c.loop-line.invariant.lines;
      links =
          ap (λ ls. ls ++ link_lines_from (number + 1) later) c.in_ok-add.ensures.links
          ∙ append_assoc links _ (link_lines_from (number + 1) later)
          ∙ ap (λ ls. links ++ ls) (link_before number _ _ (link_lines_from (number + 1) later))
          ∙ at_line (λ ls. links ++ link_lines_from number ls ≡ link_lines_from 1 (texts lines)) lines i (omega arith) c.loop-line.invariant.links;
    }
