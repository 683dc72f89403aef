use Rattle.std.proofs.Common.{◌≡◌, IfSome, sym, ap, ◌∙◌, subst}
use Rattle.std.specs.Str.{bytes_eq}
use Rattle.mx_source.proofs.Named.{lookup_named}
use Rattle.mx_lines.specs.LabelTable.{IsNear, labels_view}
use Rattle.mx_lines.specs.Operands.{label_named}
use Rattle.mx_lines.proofs.Tables.{lookup_All}
use Rattle.mx_lines.proofs.labels.Labels.find.Goals as goal

found : (c : goal.After-copied) → c.copied.result ≡ label_named (labels_view c.self.inside) c.args.name.now
found c = c.copied.ensures ∙ c.get.ensures.value ∙ lookup_named c.self.inside.table.entries c.args.name.now

pub returns-clause-value : goal.returns-clause-value
returns-clause-value c = found c ∙ ap (λ ls. label_named ls c.args.name.now) c.self.view_is

pub returns-clause-near : goal.returns-clause-near
returns-clause-near c =
    subst (λ o. IfSome o IsNear) (sym (found c)) (lookup_All IsNear (bytes_eq c.args.name.now) (labels_view c.self.inside) c.self.invariant)
