use Rattle.std.proofs.Common.{◌≡◌, ◌++◌, ◌∷◌, [], length, List, ℕ, ap, sym, ◌∙◌, arith}
use Rattle.std.proofs.lemmas.List.{take_all, length-map}
use Rattle.std.proofs.lemmas.List.Elements.{All-same}
use Rattle.mx_source.specs.declared.statement.Label.{Label}
use Rattle.mx_source.specs.Names.{name_bytes, named_labels}
use Rattle.mx_source.proofs.Grouped.{take-one_more}
use Rattle.mx_source.proofs.Named.{keys_apart}
use Rattle.mx_lines.specs.LabelTable.{IsNear, labels_view}
use Rattle.mx_lines.specs.Operands.{label_named}
use Rattle.mx_lines.proofs.Copied.{absent_before, named_at}
use Rattle.mx_lines.proofs.labels.Labels.copied.Goals as goal

pub add_named-requires : goal.add_named-requires
add_named-requires c =
    ap (λ ls. label_named ls c.bytes.result.now) c.loop-i.invariant
    ∙ absent_before (named_labels c.self.inside.table.entries) c.loop-i.i c.bytes.result.now c.in-Some.label.now
    (keys_apart c.self.inside.table.entries c.len-i-end.ensures.unique)
    (named_at c.self.inside.table.entries c.loop-i.i c.in-Some.name.now c.bytes.result.now c.in-Some.label.now (sym c.in-Some.ensures.entry) c.bytes.ensures)

pub loop-i-preserved : goal.loop-i-preserved
loop-i-preserved c =
    let e : List ℕ × Label = (c.bytes.result.now, c.in-Some.label.now) in
    c.in_ok-add_named.ensures.ok
    ∙ ap (λ xs. xs ++ e ∷ []) c.loop-i.invariant
    ∙ sym (take-one_more (named_labels c.self.inside.table.entries) c.loop-i.i e
    (named_at c.self.inside.table.entries c.loop-i.i c.in-Some.name.now c.bytes.result.now c.in-Some.label.now (sym c.in-Some.ensures.entry) c.bytes.ensures))

all : (c : goal.After-loop-i) → labels_view (record { table = c.loop-i.table }) ≡ labels_view c.self.inside
all c =
    let es = c.self.inside.table.entries in
    let long : length (named_labels es) ≡ length es = length-map es (λ p. (name_bytes p.0, p.1)) in
    c.loop-i.invariant ∙ take_all c.loop-i.i (named_labels es) (omega (arith, long, c.len-i-end.ensures.len, c.loop-i-test.false))

pub invariant_of-result : goal.invariant_of-result
invariant_of-result c = All-same (λ p. IsNear p.1) _ _ (all c) c.self.invariant

pub returns : goal.returns
returns c = all c ∙ c.self.view_is
