use Rattle.std.proofs.Common.{◌++◌, [], ◌∷◌, ap, ◌∙◌}
use Rattle.std.proofs.lemmas.List.Elements.{All-push, All-same}
use Rattle.mx_lines.specs.LabelTable.{IsNear, labels_view}
use Rattle.mx_lines.specs.Operands.{label_named}
use Rattle.mx_lines.proofs.labels.Labels.define.Goals as goal

pub add_named-requires : goal.add_named-requires
add_named-requires c = ap (λ ls. label_named ls c.args.name.now) c.self.view_is ∙ c.requires.new

pub invariant_of-self-2 : goal.invariant_of-self-2
invariant_of-self-2 c =
    All-same (λ p. IsNear p.1) _ _ c.in_ok-add_named.ensures.ok
    (All-push (λ p. IsNear p.1) (labels_view c.self.inside) (c.args.name.now, c.args.label) c.self.invariant c.requires.near)

pub returns : goal.returns
returns c = record { ok = c.in_ok-add_named.ensures.ok ∙ ap (λ ls. ls ++ (c.args.name.now, c.args.label) ∷ []) c.self.view_is }
