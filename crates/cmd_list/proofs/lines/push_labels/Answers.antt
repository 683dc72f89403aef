use Rattle.std.proofs.Common.{◌≡◌, ◌++◌, List, ℕ, arith, take, length, Some, sym, ap, ◌∙◌}
use Rattle.std.specs.List.{slice_get}
use Rattle.std.specs.Option.{option_map}
use Rattle.std.proofs.lemmas.Option.{slice_get-map}
use Rattle.std.proofs.lemmas.List.{take_all, length-map, flat_map_more}
use Rattle.mx_source.specs.declared.Label.{Label}
use Rattle.mx_source.specs.Names.{name_bytes, named_labels}
use Rattle.mx_source.proofs.Grouped.{take-one_more}
use Rattle.cmd_list.specs.Listing.{label_line, label_lines}
use Rattle.cmd_list.proofs.lines.push_labels.Goals as goal

pub loop-i-preserved : goal.loop-i-preserved
loop-i-preserved c =
    let entries = c.args.labels.now.entries in
    let links = c.args.links.now in
    let i = c.loop-i.i in
    let name = name_bytes c.in-Some.name.now in
    let label = c.in-Some.label.now in
    let before = take i (named_labels entries) in
    let line : (List ℕ × Label) → List ℕ = λ p. label_line links p.0 p.1 in
    let there : slice_get (named_labels entries) i ≡ Some (name, label) =
    slice_get-map (λ p. (name_bytes p.0, p.1)) entries i ∙ ap (option_map (λ p. (name_bytes p.0, p.1))) (sym c.in-Some.ensures.entry) in
    c.in_ok-push_label.ensures
    ∙ ap (λ t. t ++ label_line links name label) c.loop-i.invariant
    ∙ flat_map_more line c.args.text.now.items before (name, label)
    ∙ ap (λ ls. c.args.text.now.items ++ label_lines links ls) (sym (take-one_more (named_labels entries) i (name, label) there))

pub returns : goal.returns
returns c =
    let labels = named_labels c.args.labels.now.entries in
    let count : length labels ≡ length c.args.labels.now.entries = length-map c.args.labels.now.entries (λ p. (name_bytes p.0, p.1)) in
    let e : take c.loop-i.i labels ≡ labels = take_all c.loop-i.i labels (omega (arith, c.len-i-end.ensures.len, c.loop-i-test.false)) in
    c.loop-i.invariant ∙ ap (λ ls. c.args.text.now.items ++ label_lines c.args.links.now ls) e
